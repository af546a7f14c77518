-- 02, W-202: "Start, end and step must be finite." What a start is tested for, and every run at every call: one definition for both.
use Rattle.std.specs.Prelude.{Bool, ◌&&◌}
use Rattle.triple.specs.Finite.{is_finite}
use Rattle.plan.specs.declared.Plan.{Plan}
use Rattle.plan.specs.Limits.{are_within_limits}

-- 12: "a start, end or step that is not finite". The step stands in a plan twice, as it was set and with its direction.
unfoldable pub is_dated : Plan → Bool
is_dated p = is_finite p.t0 && is_finite p.tf && is_finite p.settings.h && is_finite p.h

-- what a run may hold: no setting over its limit, and no blank date. "A run that holds one counts as made up, for 7."
unfoldable pub is_lawful : Plan → Bool
is_lawful p = are_within_limits p.settings && is_dated p
