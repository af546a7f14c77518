-- `sample` puts `sample_line`: the number, ten floats, the newline.
use mathlib.Core.Path.{◌∙◌, ap}
use Prim.Native.Nat.{ℕ, ◌+◌}
use native.Mathlib.Omega.{arith}
use mathlib.Core.List.{List}
use lib.ListN.{length, set, length-set}
use Rattle.lines.specs.Put.{over}
use Rattle.lines.specs.Lines.{floats_of, ten_from}
use Rattle.lines.proofs.Over.{length_over}
use Rattle.lines.proofs.Parts.{sample_over, length_sample}
use Rattle.lines.proofs.rows.sample.Goals as goal

pub shape_of-out : goal.shape_of-out
shape_of-out c =
    let floats = ap length c.floats.ensures in
    let decimal = ap length c.decimal.ensures in
    simp length-set (floats ∙ simp length_over (decimal ∙ simp length_over))

pub returns : goal.returns
returns c =
    let places = c.places-k in
    let args = c.args in
    let ten = floats_of (ten_from args.first args.numbers.now) in
    let e = length_sample args.n places.result args.numbers.now args.first places.ensures.0 c.requires.0 in record {
      value = omega (arith, e);
      out_after = ap (λ (l : List ℕ). set l (args.at + places.result + 170) 10)
          (c.floats.ensures ∙ ap (over (args.at + places.result) ten) c.decimal.ensures)
          ∙ sample_over args.n places.result args.at args.numbers.now args.first args.out.now places.ensures.0 c.requires.0;
    }
