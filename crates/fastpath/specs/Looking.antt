-- What an answer at a step's end leads to, by the parts of a run that this takes: m its mark, p its plan, k its track, t its trial, S its startup
-- passes; `a` is the acceleration answered, `from` the sample that the room begins at, `room` how many numbers it has.
use Rattle.std.specs.Prelude.{ℕ, ◌+◌, Bool, true, cond, not, ◌&&◌, ◌==◌, nat_lt, Float}
use Rattle.std.specs.Float.{binary64}
use Rattle.std.specs.Float.Ieee.{add}
use Rattle.triple.specs.declared.Triple.{Triple}
use Rattle.triple.specs.declared.State.{State}
use Rattle.sums.specs.declared.Sums.{Sums}
use Rattle.sums.specs.Sums.{corrected_state}
use Rattle.plan.specs.declared.Plan.{Plan}
use Rattle.plan.specs.Limits.{wants_samples}
use Rattle.run.specs.declared.Mark.{Mark}
use Rattle.run.specs.declared.Count.{Count}
use Rattle.run.specs.declared.Track.{Track}
use Rattle.run.specs.declared.Trial.{Trial}
use Rattle.run.specs.declared.waiting.Waiting.TheVariants.{Step}
use Rattle.conditions.specs.Conditions.{is_due, is_tail, is_at_rest}
use Rattle.run.specs.Waiting.{mark_at}
use Rattle.run.specs.Samples.{has_place}
use Rattle.run.specs.Sound.{is_open_step}
use Rattle.gauss_jackson.specs.Answers.{next_count}
use Rattle.fastpath.specs.declared.judging.Reached.{Reached}
use Rattle.fastpath.specs.declared.judging.Reached.TheVariants.{Made, Open}
use Rattle.fastpath.specs.declared.Look.{Look}
use Rattle.fastpath.specs.declared.Look.TheVariants.{Away, Again, On}

-- where the open step ends by the newest answer, after n corrector passes, and whether it is made there
unfoldable pub reached : (n : ℕ) → Plan → Sums → Trial → Triple → State
reached n p s t a = cond (nat_lt n p.settings.max_corrector_iters) (corrected_state p.h s t.fixed a) t.state

unfoldable pub is_made : (n : ℕ) → Plan → Sums → Trial → Triple → Bool
is_made n p s t a =
    cond (nat_lt n p.settings.max_corrector_iters)
    (is_at_rest p.settings.corrector_tol t.state (corrected_state p.h s t.fixed a))
    true

unfoldable pub reach : (n : ℕ) → Plan → Sums → Trial → Triple → Reached
reach n p s t a = cond (is_made n p s t a) (Made (reached n p s t a)) (Open (reached n p s t a))

-- a further step follows at t, after n of them, and the sample that is due, if any, has its place
unfoldable pub is_followed : Plan → (t : Float) (n from room : ℕ) → Bool
is_followed p t n from room = has_place (wants_samples p.settings) from n 1 room && is_due p t && nat_lt n p.settings.max_steps && not (is_tail p t)

-- the open step is tried once more, from y, after n passes
unfoldable pub looked_again : (n : ℕ) → Count → State → Look
looked_again n c y = Again (mark_at (Step (n + 1)) c) y

-- the open step is made at y, and the next one is open, if one follows; else the answer goes the plain way
unfoldable pub looked_on : Plan → Count → Track → State → (from room : ℕ) → Look
looked_on p c k y from room =
    cond (is_followed p (add binary64 k.t p.h) (k.steps + 1) from room)
    (On (mark_at (Step 0) c) y (k.steps + 1))
    (Away (mark_at (Step 0) c) y (k.steps + 1))

-- neither: the answer goes the plain way, and what stands, stands
unfoldable pub looked_away : Mark → Track → Trial → Look
looked_away m k t = Away m t.state k.steps

unfoldable pub looked_at : Mark → Plan → Track → Trial → (S number : ℕ) → Triple → (from room : ℕ) → Look
looked_at m p k t S number a from room =
    let y = reached m.index p k.sums t a in
    cond (is_open_step m p S k.steps && m.count.number == number)
    (cond (is_made m.index p k.sums t a) (looked_on p (next_count m.count) k y from room) (looked_again m.index (next_count m.count) y))
    (looked_away m k t)
