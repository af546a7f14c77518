-- `span_of` is `span_of`: the difference of two whole numbers is exact.
use Rattle.profile.proofs.Judging.{doubled}
use Rattle.profile.proofs.Apart.{span_ranged, span_size}
use Rattle.profile.proofs.wholes.span_of.Goals as goal

pub truncating_f64_to_u64-requires : goal.truncating_f64_to_u64-requires
truncating_f64_to_u64-requires c = let r = span_ranged _ _ _ (doubled _ c.well_formed.0.1) (doubled _ c.well_formed.1.0.1) c.requires c.abs-span.ensures in record { lower_bound = r.0; upper_bound = r.1 }

pub returns : goal.returns
returns c =
    span_size _ _ _ (doubled _ c.well_formed.0.1) (doubled _ c.well_formed.1.0.1) c.requires c.abs-span.ensures _ c.truncating_f64_to_u64.ensures
