-- `refusal` puts `refusal_line`: the number, then the newline.
use mathlib.Core.Path.{◌∙◌, ap}
use Prim.Native.Nat.{ℕ, ◌+◌}
use native.Mathlib.Omega.{arith}
use mathlib.Core.List.{List}
use lib.ListN.{set}
use Rattle.lines.proofs.Parts.{refusal_over}
use Rattle.lines.proofs.rows.refusal.Goals as goal

pub returns : goal.returns
returns c =
    let args = c.args in record {
      value = omega arith;
      out_after = ap (λ (l : List ℕ). set l (args.at + args.k) 10) c.decimal.ensures
          ∙ refusal_over args.n args.k args.at args.out.now c.requires.0;
    }
