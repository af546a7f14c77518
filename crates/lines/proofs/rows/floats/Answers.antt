-- `floats` puts ten floats, one after another: what is left to put, put over what is there, stays the same.
use Rattle.std.proofs.Common.{sym, ◌∙◌, ap, ◌+◌, ◌-◌, ◌*◌, List, take, drop, arith}
use Rattle.std.specs.Float.Ieee.{Float}
use Rattle.lines.specs.Put.{over}
use Rattle.lines.specs.Lines.{floats_of}
use Rattle.lines.proofs.Floats.{next_float, first_floats, no_float_left, ten_are}
use Rattle.lines.proofs.rows.floats.Goals as goal

pub loop-i-init : goal.loop-i-init
loop-i-init c = let args = c.args in first_floats (take (args.first + 10 - args.first) (drop args.first args.numbers.now)) args.at args.out.now

pub loop-i-preserved : goal.loop-i-preserved
loop-i-preserved c =
    let args = c.args in
    let xs = take (args.first + 10 - args.first) (drop args.first args.numbers.now) in
    let i = c.loop-i.i in
    ap (over (args.at + 17 * (i + 1)) (floats_of (drop (i + 1) xs))) c.hex.ensures
    ∙ next_float xs i args.at c.bits_of.result c.loop-i.out (omega arith) c.bits_of.ensures
    ∙ c.loop-i.invariant

pub returns : goal.returns
returns c =
    let args = c.args in
    let xs = take (args.first + 10 - args.first) (drop args.first args.numbers.now) in
    let i = c.loop-i.i in
    sym (no_float_left xs i (args.at + 17 * i) c.loop-i.out (omega arith))
    ∙ c.loop-i.invariant
    ∙ ap (λ (ten : List Float). over args.at (floats_of ten) args.out.now) (ten_are args.numbers.now args.first)
