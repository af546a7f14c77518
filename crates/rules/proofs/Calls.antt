-- One call on any run: it is told, and leaves, what the rules give at the place where the line stands.
use mathlib.Core.Path.{◌≡◌, refl, sym, ap, subst, ◌∙◌}
use Prim.Native.Nat.{ℕ, ◌+◌, ◌-◌, ◌%◌, ◌≤◌, ◌<◌}
use native.Mathlib.Omega.{arith}
use mathlib.Core.Bool.{Bool, true, false, cond}
use mathlib.Core.List.{[], ◌∷◌}
use lib.Dec.{ltb, eqb}
use borrow.Author.Tests.{ltb-true, ltb-false}
use Rattle.triple.specs.declared.Triple.{Triple}
use Rattle.triple.specs.declared.State.{State}
use Rattle.refusals.specs.declared.Refusal.TheVariants.{NotThatQuestion}
use Rattle.sums.specs.Sums.{corrected_state}
use Rattle.plan.specs.Limits.{wants_samples}
use Rattle.plan.specs.Lawful.{is_lawful}
use Rattle.run.specs.declared.Count.{Count}
use Rattle.run.specs.declared.Body.{Body}
use Rattle.run.specs.declared.Run.{Run}
use Rattle.run.specs.declared.waiting.Stage.{Stage}
use Rattle.run.specs.declared.waiting.Stage.TheVariants.{First, Second, Third, Fourth}
use Rattle.run.specs.declared.waiting.Waiting.{Waiting}
use Rattle.run.specs.declared.waiting.Waiting.TheVariants.{Epoch, Forward, Backward, Survey, Pass, Step, Tail, TailSample, Ended, Unknown}
use Rattle.run.specs.Limits.{numbering}
use Rattle.conditions.specs.Conditions.{is_at_rest}
use Rattle.run.specs.Tracks.{step_point, final_point}
use Rattle.run.specs.Waiting.{is_last, stage_after, waits_at, next_point}
use Rattle.run.specs.Questions.{end_point, last_point, question_at}
use Rattle.run.specs.Moves.{surveyed, kept, moved_on, moved_back, renewed, tried, committed, end_of_tail}
use Rattle.run.specs.Samples.{Room, last_sample}
use Rattle.run.specs.Sound.{is_sound}
use Rattle.run.proofs.Counts.{Counts, Facts, to_facts}
use Rattle.run.proofs.Moving.{epoch_on, forward_kept, forward_on, forward_last, backward_kept, backward_on, backward_last, survey_on, survey_last, pass_on, pass_last, step_again, step_made, tail_kept, tail_last}
use Rattle.gauss_jackson.specs.declared.Answered.{Answered}
use Rattle.gauss_jackson.specs.Answers.{quiet, next_count, ending, asking, solution_of, step_ended, passes_on, pass_ended, rk4_taken, forward_ended, backward_ended, tail_ended, survey_taken, pass_taken, step_taken, last_taken, answered_at, refusing, answered}
use Rattle.rules.specs.Rules.{Course, asks, ends, backward, survey, renew, correct}
use Rattle.rules.specs.Walk.{refused, told, Call, settle, called}
use Rattle.rules.proofs.Rest.{turning, ahead, behind, seeing, renewing, due, landing, last, tailed, later, after3, after2, after1, stage, next, rest_at, rest, opened, line_of, seen}
use Rattle.rules.proofs.Loops.{seeing_is, renewing_is, forward_done, later_next, later_none, correct_on, ahead_is, behind_is}
use Rattle.rules.proofs.Bridge.{numbered_on, asked_is, ended_is, sampling_is, wanted_is, step_ended_is, passes_on_is, pass_ended_is}

-- ---- the right answer at a waiting point: c counts the answers up to this one
module _ (i e : ℕ) (c : Count) (b : Body) (x : Triple) (l : is_lawful b.plan ≡ true) (n : c.number ≡ c.evals % numbering) (u : c.evals ≡ e + 1) where
  forward_end_is : (out : Room) → Counts (Forward i Fourth) e b → seen (quiet (forward_ended i c b x) out) ≡ settle (ahead (i + 1) (moved_on i b x)) c.number c.evals out
  unfolding forward_ended moved_on
  forward_end_is out k = go (ltb i 7) refl
    where
      go : (d : Bool) → ltb i 7 ≡ d
          → seen (quiet (cond d (asking (Forward (i + 1) First) c (moved_on i b x)) (asking (Backward 4 First) c (moved_on i b x))) out) ≡ settle (ahead (i + 1) (moved_on i b x)) c.number c.evals out
      go true q =
          let h : i < 7 = ltb-true _ _ q in
          rw (ahead_is (i + 1) (moved_on i b x) (omega arith)) (asked_is (Forward (i + 1) First) c (moved_on i b x) out l n (rw u (forward_on i e b x h k)))
      go false q =
          let h : 7 ≤ i = ltb-false _ _ q in
          rw (forward_done (i + 1) b.plan (moved_on i b x).places (turning (moved_on i b x)) (omega arith), behind_is 4 (moved_on i b x) (omega arith))
          (asked_is (Backward 4 First) c (moved_on i b x) out l n (rw u (forward_last i e b x h k)))

  backward_end_is : (out : Room) → Counts (Backward i Fourth) e b → seen (quiet (backward_ended i c b x) out) ≡ settle (behind (i - 1) (moved_back i b x)) c.number c.evals out
  unfolding backward_ended moved_back backward later
  backward_end_is out k = go (ltb 1 i) refl
    where
      go : (d : Bool) → ltb 1 i ≡ d
          → seen (quiet (cond d (asking (Backward (i - 1) First) c (moved_back i b x)) (asking (Survey 0) c (moved_back i b x))) out) ≡ settle (behind (i - 1) (moved_back i b x)) c.number c.evals out
      go true q =
          let h : 1 < i = ltb-true _ _ q in
          rw (behind_is (i - 1) (moved_back i b x) (omega arith)) (asked_is (Backward (i - 1) First) c (moved_back i b x) out l n (rw u (backward_on i e b x h k)))
      go false q =
          let h : i ≤ 1 = ltb-false _ _ q in
          let z : i - 1 ≡ 0 = omega arith in
          asked_is (Survey 0) c (moved_back i b x) out l n (rw u (backward_last i e b x h k))
          ∙ ap (λ (t : Course). settle t c.number c.evals out) (sym (seeing_is 0 (moved_back i b x)) ∙ ap (λ (m : ℕ). behind m (moved_back i b x)) (sym z))

  survey_taken_is : (out : Room) → Counts (Survey i) e b → seen (survey_taken i c b x out) ≡ settle (seeing (later i) (surveyed i b x)) c.number c.evals out
  unfolding survey_taken surveyed survey
  survey_taken_is out k = go (ltb i 8) refl
    where
      go : (d : Bool) → ltb i 8 ≡ d
          → seen (cond d (quiet (asking (Survey (next_point i)) c (surveyed i b x)) out) (passes_on c (surveyed i b x) out)) ≡ settle (seeing (later i) (surveyed i b x)) c.number c.evals out
      go true q =
          let h : i < 8 = ltb-true _ _ q in
          rw (later_next i h k.0.other, seeing_is (next_point i) (surveyed i b x)) (asked_is (Survey (next_point i)) c (surveyed i b x) out l n (rw u (survey_on i e b x h k)))
      go false q =
          let h : 8 ≤ i = ltb-false _ _ q in
          rw (later_none i h) (passes_on_is c (surveyed i b x) l n (rw u (survey_last i e b x h k)) out)

  pass_taken_is : (out : Room) → Counts (Pass i) e b → seen (pass_taken i c b x out) ≡ settle (renewing (later i) (renewed i b x)) c.number c.evals out
  unfolding pass_taken renewed renew
  pass_taken_is out k = go (ltb i 8) refl
    where
      go : (d : Bool) → ltb i 8 ≡ d
          → seen (cond d (quiet (asking (Pass (next_point i)) c (renewed i b x)) out) (pass_ended c (renewed i b x) out)) ≡ settle (renewing (later i) (renewed i b x)) c.number c.evals out
      go true q =
          let h : i < 8 = ltb-true _ _ q in
          rw (later_next i h k.2.other, renewing_is (next_point i) (renewed i b x)) (asked_is (Pass (next_point i)) c (renewed i b x) out l n (rw u (pass_on i e b x h k)))
      go false q =
          let h : 8 ≤ i = ltb-false _ _ q in
          rw (later_none i h) (pass_ended_is c (renewed i b x) out l n (rw u (pass_last i e b x h k)))

  -- after i corrector passes
  step_taken_is : (out : Room) → Counts (Step i) e b → seen (step_taken i c b x out) ≡ settle (next (Step i) b x) c.number c.evals out
  unfolding step_taken next rest_at question_at end_point tried due committed
  step_taken_is out k =
      rw (correct_on b.plan i b.track b.trial.fixed b.trial.state x (landing b))
      (go (ltb i b.plan.settings.max_corrector_iters) (is_at_rest b.plan.settings.corrector_tol b.trial.state y) refl)
    where
      y : State
      y = corrected_state b.plan.h b.track.sums b.trial.fixed x

      made : (z : State) → seen (step_ended c (committed b z x) out) ≡ settle (landing b z x) c.number c.evals out
      made z = step_ended_is c (committed b z x) l n out (rw u (step_made e b i z x k))

      again : i < b.plan.settings.max_corrector_iters
          → seen (quiet (asking (Step (i + 1)) c (tried b y)) out)
          ≡ settle
          (asks (step_point b.plan b.track y) (λ (z : Triple). correct (b.plan.settings.max_corrector_iters - (i + 1)) b.plan b.track b.trial.fixed y z (landing b)))
          c.number c.evals out
      again h = asked_is (Step (i + 1)) c (tried b y) out l n (rw u (step_again e b i y h k))

      go : (d r : Bool) → ltb i b.plan.settings.max_corrector_iters ≡ d
          → seen (cond d (cond r (step_ended c (committed b y x) out) (quiet (asking (Step (i + 1)) c (tried b y)) out)) (step_ended c (committed b b.trial.state x) out))
          ≡ settle
          (cond d
          (cond r
          (landing b y x)
          (asks (step_point b.plan b.track y) (λ (z : Triple). correct (b.plan.settings.max_corrector_iters - (i + 1)) b.plan b.track b.trial.fixed y z (landing b))))
          (landing b b.trial.state x))
          c.number c.evals out
      go true true q = made y
      go true false q = again (ltb-true _ _ q)
      go false true q = made b.trial.state
      go false false q = made b.trial.state

  tail_end_is : (out : Room) → Counts (Tail Fourth) e b → seen (quiet (tail_ended c b x) out) ≡ settle (tailed b (end_of_tail b x)) c.number c.evals out
  unfolding tail_ended tailed settle solution_of told rest_at question_at last_point next tried last
  tail_end_is out k = go (wants_samples b.plan.settings) refl
    where
      sample_asked : wants_samples b.plan.settings ≡ true
          → seen (quiet (asking TailSample c (tried b (end_of_tail b x))) out) ≡ settle (asks (final_point b.plan (end_of_tail b x)) (last b (end_of_tail b x))) c.number c.evals out
      sample_asked q = asked_is TailSample c (tried b (end_of_tail b x)) out l n (rw u (tail_last e b (end_of_tail b x) q k))

      go : (d : Bool) → wants_samples b.plan.settings ≡ d
          → seen (quiet (cond d (asking TailSample c (tried b (end_of_tail b x))) (ending (solution_of b.plan.tf (end_of_tail b x) c (b.track.steps + 1) b))) out)
          ≡ settle
          (cond d (asks (final_point b.plan (end_of_tail b x)) (last b (end_of_tail b x))) (ends b.plan.tf (end_of_tail b x) (b.track.steps + 1) b.startup_iters))
          c.number c.evals out
      go true q = sample_asked q
      go false q = ended_is (solution_of b.plan.tf (end_of_tail b x) c (b.track.steps + 1) b) out

  last_taken_is : (out : Room) → Counts TailSample e b → seen (last_taken c b x out) ≡ settle (last b b.trial.state x) c.number c.evals out
  unfolding last_taken last settle solution_of told ending
  last_taken_is out k =
      sampling_is (b.track.steps + 1) (last_sample b.plan b.trial.state x ∷ []) b out
      (ending (solution_of b.plan.tf b.trial.state c (b.track.steps + 1) b))
      (ends b.plan.tf b.trial.state (b.track.steps + 1) b.startup_iters) c.number c.evals
      refl (ended_is (solution_of b.plan.tf b.trial.state c (b.track.steps + 1) b))
      ∙ ap (λ (t : Course). settle t c.number c.evals out) (wanted_is b.plan (b.track.steps + 1) _ _ k.0)

-- ---- an RK4 step, whose waiting points are w and whose end leads to k
-- a question whose rest is known by another name
asked_by : (v : Waiting) (c : Count) (b : Body) (out : Room) {z : Body → Triple → Course} → is_lawful b.plan ≡ true → c.number ≡ c.evals % numbering
    → next v ≡ z → Counts v c.evals b → seen (quiet (asking v c b) out) ≡ settle (asks (question_at v b) (z b)) c.number c.evals out
unfolding rest_at
asked_by v c b out l n e h =
    asked_is v c b out l n h ∙ ap (λ (y : Body → Triple → Course). settle (asks (question_at v b) (y b)) c.number c.evals out) e

rk4_is : (w : Stage → Waiting) (k : Body → Triple → Course) (c : Count) (b : Body) (x : Triple) (out : Room) (end : Answered)
    → is_lawful b.plan ≡ true → c.number ≡ c.evals % numbering
    → ((s : Stage) → next (w s) ≡ stage w k s)
    → (s : Stage) → (is_last s ≡ false → Counts (w (stage_after s)) c.evals (kept s b x)) → (s ≡ Fourth → seen (quiet end out) ≡ settle (k b x) c.number c.evals out)
    → seen (quiet (rk4_taken w s c b x end) out) ≡ settle (stage w k s b x) c.number c.evals out
unfolding rk4_taken stage after1 after2 after3 kept
rk4_is w k c b x out end l n f First g h = asked_by (w Second) c (kept First b x) out l n (f Second) (g refl)
rk4_is w k c b x out end l n f Second g h = asked_by (w Third) c (kept Second b x) out l n (f Third) (g refl)
rk4_is w k c b x out end l n f Third g h = asked_by (w Fourth) c (kept Third b x) out l n (f Fourth) (g refl)
rk4_is w k c b x out end l n f Fourth g h = h refl

-- ---- the one-call lemma, a line for each waiting point
point_is : (w : Waiting) (c : Count) (b : Body) (x : Triple) (out : Room) → is_lawful b.plan ≡ true → c.number ≡ c.evals % numbering → Counts w c.evals b
    → seen (answered_at w (next_count c) b x out) ≡ settle (next w b x) (next_count c).number (next_count c).evals out
unfolding answered_at next rest_at surveyed next_count
point_is Epoch c b x out l n k =
    rw (ahead_is 4 (surveyed 4 b x) (omega arith)) (asked_is (Forward 4 First) (next_count c) (surveyed 4 b x) out l (numbered_on c n) (epoch_on c.evals b x k))
point_is (Forward i s) c b x out l n k =
    rk4_is (λ (t : Stage). Forward i t) (λ (b : Body) (x : Triple). ahead (i + 1) (moved_on i b x)) (next_count c) b x out _ l (numbered_on c n) (λ t. refl) s
    (λ h. forward_kept i c.evals b x s h k) (λ e. forward_end_is i c.evals (next_count c) b x l (numbered_on c n) refl out (subst (λ (t : Stage). Counts (Forward i t) c.evals b) e k))
point_is (Backward i s) c b x out l n k =
    rk4_is (λ (t : Stage). Backward i t) (λ (b : Body) (x : Triple). behind (i - 1) (moved_back i b x)) (next_count c) b x out _ l (numbered_on c n) (λ t. refl) s
    (λ h. backward_kept i c.evals b x s h k) (λ e. backward_end_is i c.evals (next_count c) b x l (numbered_on c n) refl out (subst (λ (t : Stage). Counts (Backward i t) c.evals b) e k))
point_is (Survey i) c b x out l n k = survey_taken_is i c.evals (next_count c) b x l (numbered_on c n) refl out k
point_is (Pass i) c b x out l n k = pass_taken_is i c.evals (next_count c) b x l (numbered_on c n) refl out k
point_is (Step i) c b x out l n k = step_taken_is i c.evals (next_count c) b x l (numbered_on c n) refl out k
point_is (Tail s) c b x out l n k =
    rk4_is (λ (t : Stage). Tail t) (λ (b : Body) (x : Triple). tailed b (end_of_tail b x)) (next_count c) b x out _ l (numbered_on c n) (λ t. refl) s
    (λ h. tail_kept c.evals b s x h k) (λ e. tail_end_is 0 c.evals (next_count c) b x l (numbered_on c n) refl out (subst (λ (t : Stage). Counts (Tail t) c.evals b) e k))
point_is TailSample c b x out l n k = last_taken_is 0 c.evals (next_count c) b x l (numbered_on c n) refl out k
point_is Ended c b x out l n k = absurd k
point_is Unknown c b x out l n k = absurd k

-- any call, any run
pub call_is : (run : Run) (k : Call) → seen (answered run k.number k.a k.out) ≡ called (line_of run) k
unfolding answered line_of rest rest_at called opened seen refusing told next_count
call_is run k = go (is_sound run) refl
  where
    right : (d : Bool) → Facts run → is_sound run ≡ true
        → seen
        (cond d
        (answered_at (waits_at run.mark) (next_count run.mark.count) run.body k.a k.out)
        (quiet (refusing run NotThatQuestion) k.out))
        ≡ cond d
        (settle (next (waits_at run.mark) run.body k.a) (next_count run.mark.count).number (next_count run.mark.count).evals k.out)
        (record { said = refused 8; stored = 0; out = k.out; line = opened run.mark.count.number run.mark.count.evals (rest run) })
    right true f e = point_is (waits_at run.mark) run.mark.count run.body k.a k.out f.lawful f.numbered f.counted
    right false f e = simp e

    go : (d : Bool) → is_sound run ≡ d → seen (answered run k.number k.a k.out) ≡ called (line_of run) k
    go true e = rw e (right (eqb run.mark.count.number k.number) (to_facts run e) e)
    go false e = simp e
