-- `decimal` puts the digits, the last one first: what is left to put, put over what is there, stays the same.
use Rattle.std.proofs.Common.{◌≡◌}
use Rattle.lines.specs.Put.{over}
use Rattle.lines.specs.Digits.{digits}
use Rattle.lines.proofs.spell.decimal.Given as goal

abbrev pub invariant-loop-i : goal.invariant-loop-i
invariant-loop-i l = over l.at (digits 10 l.i l.rest) l.out ≡ over l.at (digits 10 l.k l.n) l.initial.out
