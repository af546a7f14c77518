-- `quintic_hermite` is `quintic_hermite`, operation by operation.
use Rattle.quintic.specs.Quintic.{quintic_hermite}
use Rattle.quintic.proofs.quintic_hermite.Goals as goal

pub returns : goal.returns
unfolding quintic_hermite
returns c = simp (c.acceleration_on-a.ensures, c.velocity_on-v.ensures, c.position_on-r.ensures, c.curve_of-curve.ensures)
