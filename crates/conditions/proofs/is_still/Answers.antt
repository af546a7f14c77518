-- `is_still` is `is_still`: by the mean squares where they tell it, else by the roots.
use mathlib.Core.Path.{sym}
use lib.Dec.{lit≤}
use lib.Ieee.{fits, of_bits, round}
use Rattle.double.specs.Units.{in_units}
use Rattle.triple.specs.Size.{size_of, tiny}
use Rattle.std.proofs.lemmas.Float.{T_from_true}
use Rattle.conditions.specs.Conditions.{is_still}
use Rattle.conditions.proofs.Resting.{still_below, still_above}
use Rattle.conditions.proofs.is_still.Goals as goal

pub returns-then-change-limit : goal.returns-then-change-limit
unfolding of_bits fits in_units
returns-then-change-limit c =
    let h = rw (c.mean_square-new.ensures, c.mean_square-change.ensures, c.minus.ensures) at c.if-change-limit.true in
    sym (still_below _ _ _ _ (T_from_true _ c.well_formed.0.1)
    (rw (← c.mean_square-new.ensures, ← c.is_usual.ensures) c.if-is_usual.true) tt tt (lit≤ tt) h)

pub returns-then-limit-change : goal.returns-then-limit-change
unfolding of_bits fits in_units
returns-then-limit-change c =
    let h = rw (c.mean_square-new.ensures, c.mean_square-change.ensures, c.minus.ensures) at c.if-limit-change.true in
    sym (still_above _ _ _ _ (T_from_true _ c.well_formed.0.1)
    (rw (← c.mean_square-new.ensures, ← c.is_usual.ensures) c.if-is_usual.true) tt tt (lit≤ tt) h)

pub returns : goal.returns
unfolding is_still size_of tiny of_bits round
returns c =
    simp (c.root-2.ensures, c.root.ensures, c.mean_square-new.ensures, c.mean_square-change.ensures, c.minus.ensures)
