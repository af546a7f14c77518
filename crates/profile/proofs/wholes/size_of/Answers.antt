-- `size_of` is the size of the whole number.
use Rattle.profile.proofs.Judging.{doubled, whole_ranged, whole_size}
use Rattle.profile.proofs.wholes.size_of.Goals as goal

pub truncating_f64_to_u64-requires : goal.truncating_f64_to_u64-requires
truncating_f64_to_u64-requires c = let r = whole_ranged _ _ c.requires c.abs-size.ensures in record { lower_bound = r.0; upper_bound = r.1 }

pub returns : goal.returns
returns c = (whole_size _ _ _ c.requires c.abs-size.ensures c.truncating_f64_to_u64.ensures, doubled _ c.well_formed.0.1)
