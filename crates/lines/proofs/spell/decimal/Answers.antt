-- `decimal` puts the digits, the last one first: what is left to put, put over what is there, stays the same.
use Rattle.std.proofs.Common.{◌∙◌, arith}
use Rattle.lines.proofs.Over.{one_turn, none_left}
use Rattle.lines.proofs.spell.decimal.Goals as goal

pub loop-i-preserved : goal.loop-i-preserved
loop-i-preserved c = one_turn c.loop-i.i c.loop-i.rest c.args.at c.loop-i.out c.loop-i-test.true ∙ c.loop-i.invariant

pub returns : goal.returns
returns c = none_left c.loop-i.i c.loop-i.rest c.args.at c.loop-i.out (omega arith) ∙ c.loop-i.invariant
