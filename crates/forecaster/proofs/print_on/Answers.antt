-- `print_on` prints what `piece_in` says.
use mathlib.Core.Path.{refl}
use borrow.Author.Tests.{lt-leb, le-leb}
use Rattle.lines.specs.Put.{over}
use Rattle.forecaster.specs.Pieces.{longest_piece, piece_of, piece_in}
use Rattle.forecaster.proofs.print_on.Goals as goal

pub returns-then-out-lt-LONGEST : goal.returns-then-out-lt-LONGEST
unfolding piece_in over
returns-then-out-lt-LONGEST c = rw (lt-leb longest_piece _ c.if-out-lt-LONGEST.true) (refl, refl, refl)

pub returns-in-Unread : goal.returns-in-Unread
unfolding piece_in piece_of
returns-in-Unread c = rw (le-leb longest_piece _ c.if-out-lt-LONGEST.false, c.in-Unread.is) c.print_unread.ensures

pub returns-in-Flying : goal.returns-in-Flying
unfolding piece_in piece_of
returns-in-Flying c = rw (le-leb longest_piece _ c.if-out-lt-LONGEST.false, c.in-Flying.is) c.print_flown.ensures

pub returns-in-Over : goal.returns-in-Over
unfolding piece_in piece_of over
returns-in-Over c = rw (le-leb longest_piece _ c.if-out-lt-LONGEST.false, c.in-Over.is) (refl, refl, refl)
