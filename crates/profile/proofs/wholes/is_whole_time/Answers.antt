-- `is_whole_time` is `is_whole_time`.
use lib.Ieee.{of_bits}
use Rattle.profile.proofs.Judging.{ranged, tested, too_large}
use Rattle.profile.proofs.wholes.is_whole_time.Goals as goal

pub truncating_f64_to_u64-part-requires : goal.truncating_f64_to_u64-part-requires
unfolding of_bits
truncating_f64_to_u64-part-requires c = let r = ranged _ _ c.abs-size.ensures c.if-size.true in record { lower_bound = r.0; upper_bound = r.1 }

pub returns-then-size : goal.returns-then-size
unfolding of_bits
returns-then-size c = tested _ _ _ _ c.abs-size.ensures c.truncating_f64_to_u64-part.ensures c.nearest_u64_to_f64-again.ensures c.if-size.true

pub returns : goal.returns
unfolding of_bits
returns c = too_large _ _ c.abs-size.ensures c.if-size.false
