-- `places` is `places`, of twenty: the logarithm and one.
use Rattle.lines.proofs.Places.{by_logarithm}
use Rattle.lines.proofs.spell.places.Goals as goal

pub returns : goal.returns
returns c =
    let e = c.checked_ilog10.ensures in
    let u = c.unwrap_or.ensures in
    rw u (by_logarithm c.args.n c.checked_ilog10.result e.none e.power_le e.next_power_gt e.bound)
