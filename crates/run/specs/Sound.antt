-- 01, answer 7: a run "has ended, or is made up: a setting over its limit, a pass, step or answer count outside what the counting below allows
-- at its waiting point, times and tolerances aside, or a question number that is not the answer count's remainder by 65,536". W-202 adds a start, end
-- or step that is not finite.
-- e is the count of answers accepted before the open question: 1 at the epoch, 16 in each RK4 half, 8 in the survey, 8 in each startup pass.
use Rattle.std.specs.Prelude.{ℕ, ◌+◌, ◌-◌, ◌*◌, ◌%◌, Bool, false, not, ◌&&◌, cond, eqb, ltb, leb}
use Rattle.plan.specs.declared.Settings.{Settings}
use Rattle.plan.specs.declared.Plan.{Plan}
use Rattle.plan.specs.Limits.{wants_samples}
use Rattle.plan.specs.Lawful.{is_lawful}
use Rattle.run.specs.declared.Mark.{Mark}
use Rattle.run.specs.declared.Run.{Run}
use Rattle.run.specs.declared.Body.{Body}
use Rattle.run.specs.declared.waiting.Stage.{Stage}
use Rattle.run.specs.declared.waiting.Waiting.{Waiting}
use Rattle.run.specs.declared.waiting.Waiting.TheVariants.{Epoch, Forward, Backward, Survey, Pass, Step, Tail, TailSample, Ended, Unknown}
use Rattle.run.specs.Limits.{numbering}
use Rattle.run.specs.Waiting.{stage_number, waits_at}

-- no startup pass is made, and no step
unfoldable pub is_idle : Body → Bool
is_idle b = eqb b.startup_iters 0 && eqb b.track.steps 0

-- on from point i, 4 to 7: e = 1 + 4(i-4) + stage
unfoldable pub forward_counts : ℕ → Stage → ℕ → Bool
forward_counts i s e = leb 4 i && leb i 7 && eqb e (4 * i + stage_number s - 15)

-- back from point i, 4 to 1: e = 17 + 4(4-i) + stage
unfoldable pub backward_counts : ℕ → Stage → ℕ → Bool
backward_counts i s e = leb 1 i && leb i 4 && eqb e (33 + stage_number s - 4 * i)

-- how many of the points 0, 1, 2, 3, 5, 6, 7, 8 come before point i
unfoldable pub rank_of : ℕ → ℕ
rank_of i = cond (ltb i 4) i (i - 1)

unfoldable pub point_counts : ℕ → ℕ → ℕ → Bool
point_counts i before e = leb i 8 && not (eqb i 4) && eqb e (before + rank_of i)

unfoldable pub pass_counts : ℕ → ℕ → Body → Bool
pass_counts i e b =
    ltb b.startup_iters b.plan.settings.max_startup_iters && eqb b.track.steps 0 && point_counts i (41 + 8 * b.startup_iters) e

-- S startup passes, "from 1, or 0 where max_startup_iters is 0, to max_startup_iters", which is M
unfoldable pub is_started_up : (S M : ℕ) → Bool
is_started_up S M = leb S M && cond (eqb S 0) (eqb M 0) (not false)

-- n steps, 4 <= n < max_steps, and k answers in the open one: e from 41 + 8S + k + (n-4) to 41 + 8S + k + (n-4)(1+C)
unfoldable pub step_counts : (k e : ℕ) → Settings → (S n : ℕ) → Bool
step_counts k e s S n =
    is_started_up S s.max_startup_iters
    && leb 4 n
    && ltb n s.max_steps
    && leb (41 + 8 * S + k + (n - 4)) e
    && leb e (41 + 8 * S + k + (n - 4) * (1 + s.max_corrector_iters))

-- the same of a body
abbrev pub body_counts : (k e : ℕ) → Body → Bool
body_counts k e b = step_counts k e b.plan.settings b.startup_iters b.track.steps

unfoldable pub has_counts : Waiting → ℕ → Body → Bool
has_counts Epoch e b = eqb e 0 && is_idle b
has_counts (Forward i s) e b = forward_counts i s e && is_idle b
has_counts (Backward i s) e b = backward_counts i s e && is_idle b
has_counts (Survey i) e b = point_counts i 33 e && is_idle b
has_counts (Pass i) e b = pass_counts i e b
has_counts (Step c) e b = leb c b.plan.settings.max_corrector_iters && body_counts c e b
has_counts (Tail s) e b = body_counts (stage_number s) e b
has_counts TailSample e b = wants_samples b.plan.settings && body_counts 4 e b
has_counts Ended e b = false
has_counts Unknown e b = false

unfoldable pub is_sound : Run → Bool
is_sound run =
    is_lawful run.body.plan
    && eqb run.mark.count.number (run.mark.count.evals % numbering)
    && has_counts (waits_at run.mark) run.mark.count.evals run.body

-- a sound run waits at a step's end: by the parts that this takes, m its mark, p its plan, S startup passes and n steps
unfoldable pub is_open_step : Mark → Plan → (S n : ℕ) → Bool
is_open_step m p S n =
    eqb m.at 6
    && leb m.stage 3
    && is_lawful p
    && eqb m.count.number (m.count.evals % numbering)
    && leb m.index p.settings.max_corrector_iters
    && step_counts m.index m.count.evals p.settings S n
