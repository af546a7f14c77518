-- `is_finite` is `is_finite`: what is left of a number less itself is compared with itself.
use Rattle.triple.proofs.Finite.{less_itself}
use Rattle.triple.proofs.is_finite.Goals as goal

pub returns : goal.returns
returns c = less_itself _
