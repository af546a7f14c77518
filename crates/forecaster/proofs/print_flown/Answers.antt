-- `print_flown` prints what `flown_piece` says of a call.
use mathlib.Core.List.{[]}
use lib.ListN.{length-replicate}
use lib.Ieee.{Float, of_bits}
use Rattle.triple.specs.Arithmetic.{nought}
use Rattle.forecaster.specs.Pieces.{carried_on}
use Rattle.forecaster.proofs.Fitting.{told_forth, told_fits}
use Rattle.forecaster.proofs.APiece.{told_piece}
use Rattle.forecaster.proofs.print_flown.Goals as goal

pub overflow_sub-told : goal.overflow_sub-told
overflow_sub-told c = told_forth _ _ _ [] c.fly_on-after.ensures.0

pub put_told-count-requires : goal.put_told-count-requires
put_told-count-requires c =
    let flown = c.fly_on-after.ensures in
    let fits = told_fits _ _ _ _ flown.0 flown.1 (length-replicate {A = Float} 640 nought) in
    (fits.0, fits.1, fits.2, c.requires)

pub returns-in-Asks : goal.returns-in-Asks
unfolding carried_on of_bits
returns-in-Asks c =
    let told = c.put_told-count.ensures in
    let flown = c.fly_on-after.ensures in
    told_piece c.args.before c.fly_on-after.result _ c.args.out.now _ _ _ flown.0 flown.1 (rw c.in-Asks.is) told.value told.out_after

pub returns-in-Over : goal.returns-in-Over
unfolding carried_on of_bits
returns-in-Over c =
    let told = c.put_told-count.ensures in
    let flown = c.fly_on-after.ensures in
    told_piece c.args.before c.fly_on-after.result _ c.args.out.now _ _ _ flown.0 flown.1 (rw c.in-Over.is) told.value told.out_after
