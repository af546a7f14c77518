-- What a waiting point does not use, the rest of the run does not read.
use mathlib.Core.Path.{◌≡◌, refl, ◌∙◌, ap, fun_ext}
use mathlib.Core.Logic.{◌≢◌}
use Prim.Native.Nat.{ℕ, zero, suc, ◌-◌, ◌≤◌}
use native.Mathlib.Omega.{arith}
use mathlib.Core.Bool.{true, cond}
use mathlib.Core.List.{List}
use lib.Ieee.{Float, nan}
use Rattle.triple.specs.declared.Triple.{Triple}
use Rattle.triple.specs.declared.State.{State}
use Rattle.triple.specs.Nine.{at, slid}
use Rattle.sums.specs.declared.Sums.{Sums}
use Rattle.sums.specs.declared.Fixed.{Fixed}
use Rattle.sums.specs.Sums.{corrected_state}
use Rattle.startup.specs.Points.{point_at, placed}
use Rattle.plan.specs.declared.Plan.{Plan}
use Rattle.run.specs.declared.Body.{Body}
use Rattle.run.specs.declared.Run.{Run}
use Rattle.run.specs.declared.waiting.Stage.{Stage}
use Rattle.run.specs.declared.waiting.Stage.TheVariants.{First, Second, Third, Fourth}
use Rattle.run.specs.declared.waiting.Waiting.{Waiting}
use Rattle.run.specs.declared.waiting.Waiting.TheVariants.{Epoch, Forward, Backward, Survey, Pass, Step, Tail, TailSample, Ended, Unknown}
use Rattle.conditions.specs.Conditions.{is_at_rest}
use Rattle.run.specs.Tracks.{track_on, step_point, tail_from, final_point}
use Rattle.run.specs.Waiting.{waits_at}
use Rattle.run.specs.Questions.{stage_question, grid_point, epoch_point, end_point, last_point, question_at}
use Rattle.run.specs.Moves.{surveyed, with_slope, kept, end_of, moved_on, moved_back, renewed, committed, end_of_tail}
use Rattle.run.specs.Sound.{is_sound}
use Rattle.run.proofs.Decoding.{read}
use Rattle.run.proofs.Counts.{Counts, to_facts}
use Rattle.rules.specs.Rules.{Course, asks, rk4, forward, backward, survey, correct}
use Rattle.rules.proofs.Rest.{due, last, tailed, later, after1, after2, after3, stage, next, rest_at, rest}
use Rattle.blocks.specs.Rows.{row}
use Rattle.blocks.proofs.Filled.{row_of}
use Rattle.stored.specs.Layout.{line, up_to_epoch, uses_of, place_used, acceleration_used, triple_used, used, triples_of, component, float_no}
use Rattle.stored.specs.Content.{counts_in}
use Rattle.stored.specs.Taken.{body_from}
use Rattle.stored.specs.Trips.{kept_float, kept_triple, cleaned}
use Rattle.resumed.proofs.Machine.{Machine}
use Rattle.resumed.proofs.Points.{whole, clean, Same, pass_by, survey_by}

-- ---- the tail
tail_sample : Same TailSample
unfolding rest_at next question_at body_from row kept_triple kept_float used triple_used uses_of line place_used acceleration_used up_to_epoch float_no component last_point final_point last
tail_sample ts n s = refl

tail_at : (s : Stage) → Same (Tail s)
unfolding rest_at next question_at body_from row kept_triple kept_float used triple_used uses_of line place_used acceleration_used up_to_epoch float_no component stage_question grid_point point_at placed end_of stage after1 after2 after3 kept with_slope rk4 tail_from final_point last tailed end_of_tail
tail_at First ts n s = refl
tail_at Second ts n s = refl
tail_at Third ts n s = refl
tail_at Fourth ts n s = refl

-- ---- a step: its passes read the clock and the sums alone of the newest point
correct_same : (left : ℕ) (p : Plan) (t : Float) (m : ℕ) (x y : State) (z : Sums) (f : Fixed) (e : State) (b : Triple) (commit : State → Triple → Course)
    → correct left p (record { t = t; steps = m; state = x; sums = z }) f e b commit ≡ correct left p (record { t = t; steps = m; state = y; sums = z }) f e b commit
unfolding correct step_point
correct_same zero p t m x y z f e b commit = refl
correct_same (suc left) p t m x y z f e b commit =
    ap (λ (k : Triple → Course).
    cond (is_at_rest p.settings.corrector_tol e (corrected_state p.h z f b))
    (commit (corrected_state p.h z f b) b)
    (asks (step_point p (record { t = t; steps = m; state = y; sums = z }) (corrected_state p.h z f b)) k))
    (fun_ext (λ (c : Triple). correct_same left p t m x y z f (corrected_state p.h z f b) c commit))

step_at : (m : ℕ) → Same (Step m)
unfolding rest_at next question_at body_from row kept_triple kept_float used triple_used uses_of line place_used acceleration_used up_to_epoch float_no component end_point step_point due committed track_on slid
step_at m ts n s =
    let b = whole ts n s in
    ap (asks (question_at (Step m) b))
    (fun_ext (λ (x : Triple).
    correct_same (b.plan.settings.max_corrector_iters - m) b.plan b.track.t b.track.steps (clean (Step m) ts n s).track.state b.track.state b.track.sums b.trial.fixed b.trial.state x
    (λ (y : State) (x : Triple). due (committed b y x))))

-- ---- the startup's points
pass_at : (i : ℕ) → i ≤ 8 → i ≢ 4 → Same (Pass i)
unfolding rest_at next question_at body_from row kept_triple kept_float used triple_used uses_of line place_used acceleration_used up_to_epoch float_no component grid_point point_at renewed later
pass_at zero h o ts n s = pass_by 0 ts n s refl refl refl refl (refl, (refl, (refl, (refl, (refl, (refl, (refl, tt)))))))
pass_at (suc zero) h o ts n s = pass_by 1 ts n s refl refl refl refl (refl, (refl, (refl, (refl, (refl, (refl, tt))))))
pass_at (suc (suc zero)) h o ts n s = pass_by 2 ts n s refl refl refl refl (refl, (refl, (refl, (refl, (refl, tt)))))
pass_at (suc (suc (suc zero))) h o ts n s = pass_by 3 ts n s refl refl refl refl (refl, (refl, (refl, (refl, tt))))
pass_at (suc (suc (suc (suc zero)))) h o ts n s = absurd (o refl)
pass_at (suc (suc (suc (suc (suc zero))))) h o ts n s = pass_by 5 ts n s refl refl refl refl (refl, (refl, (refl, tt)))
pass_at (suc (suc (suc (suc (suc (suc zero)))))) h o ts n s = pass_by 6 ts n s refl refl refl refl (refl, (refl, tt))
pass_at (suc (suc (suc (suc (suc (suc (suc zero))))))) h o ts n s = pass_by 7 ts n s refl refl refl refl (refl, tt)
pass_at (suc (suc (suc (suc (suc (suc (suc (suc zero)))))))) h o ts n s = pass_by 8 ts n s refl refl refl refl tt
pass_at (suc (suc (suc (suc (suc (suc (suc (suc (suc i))))))))) h o ts n s = absurd (omega arith)

survey_at : (i : ℕ) → i ≤ 8 → i ≢ 4 → Same (Survey i)
unfolding rest_at next question_at body_from row kept_triple kept_float used triple_used uses_of line place_used acceleration_used up_to_epoch float_no component grid_point point_at surveyed later survey
survey_at zero h o ts n s = survey_by 0 ts n s refl refl (λ x k. refl) (refl, (refl, (refl, (refl, (refl, (refl, (refl, tt)))))))
survey_at (suc zero) h o ts n s = survey_by 1 ts n s refl refl (λ x k. refl) (refl, (refl, (refl, (refl, (refl, (refl, tt))))))
survey_at (suc (suc zero)) h o ts n s = survey_by 2 ts n s refl refl (λ x k. refl) (refl, (refl, (refl, (refl, (refl, tt)))))
survey_at (suc (suc (suc zero))) h o ts n s = survey_by 3 ts n s refl refl (λ x k. refl) (refl, (refl, (refl, (refl, tt))))
survey_at (suc (suc (suc (suc zero)))) h o ts n s = absurd (o refl)
survey_at (suc (suc (suc (suc (suc zero))))) h o ts n s = survey_by 5 ts n s refl refl (λ x k. refl) (refl, (refl, (refl, tt)))
survey_at (suc (suc (suc (suc (suc (suc zero)))))) h o ts n s = survey_by 6 ts n s refl refl (λ x k. refl) (refl, (refl, tt))
survey_at (suc (suc (suc (suc (suc (suc (suc zero))))))) h o ts n s = survey_by 7 ts n s refl refl (λ x k. refl) (refl, tt)
survey_at (suc (suc (suc (suc (suc (suc (suc (suc zero)))))))) h o ts n s = survey_by 8 ts n s refl refl (λ x k. refl) tt
survey_at (suc (suc (suc (suc (suc (suc (suc (suc (suc i))))))))) h o ts n s = absurd (omega arith)

-- ---- the RK4 steps of the startup: every point that was not reached is set before it is read
backward_at : (i : ℕ) (t : Stage) → 1 ≤ i → i ≤ 4 → Same (Backward i t)
unfolding rest_at next question_at body_from row kept_triple kept_float used triple_used uses_of line place_used acceleration_used up_to_epoch float_no component stage_question grid_point point_at placed end_of stage after1 after2 after3 kept with_slope rk4 moved_back backward survey
backward_at zero t h k ts n s = absurd (omega arith)
backward_at (suc zero) First h k ts n s = refl
backward_at (suc zero) Second h k ts n s = refl
backward_at (suc zero) Third h k ts n s = refl
backward_at (suc zero) Fourth h k ts n s = refl
backward_at (suc (suc zero)) First h k ts n s = refl
backward_at (suc (suc zero)) Second h k ts n s = refl
backward_at (suc (suc zero)) Third h k ts n s = refl
backward_at (suc (suc zero)) Fourth h k ts n s = refl
backward_at (suc (suc (suc zero))) First h k ts n s = refl
backward_at (suc (suc (suc zero))) Second h k ts n s = refl
backward_at (suc (suc (suc zero))) Third h k ts n s = refl
backward_at (suc (suc (suc zero))) Fourth h k ts n s = refl
backward_at (suc (suc (suc (suc zero)))) First h k ts n s = refl
backward_at (suc (suc (suc (suc zero)))) Second h k ts n s = refl
backward_at (suc (suc (suc (suc zero)))) Third h k ts n s = refl
backward_at (suc (suc (suc (suc zero)))) Fourth h k ts n s = refl
backward_at (suc (suc (suc (suc (suc i))))) t h k ts n s = absurd (omega arith)

forward_at : (i : ℕ) (t : Stage) → 4 ≤ i → i ≤ 7 → Same (Forward i t)
unfolding rest_at next question_at body_from row kept_triple kept_float used triple_used uses_of line place_used acceleration_used up_to_epoch float_no component stage_question grid_point point_at placed end_of stage after1 after2 after3 kept with_slope rk4 moved_on forward backward survey
forward_at zero t h k ts n s = absurd (omega arith)
forward_at (suc zero) t h k ts n s = absurd (omega arith)
forward_at (suc (suc zero)) t h k ts n s = absurd (omega arith)
forward_at (suc (suc (suc zero))) t h k ts n s = absurd (omega arith)
forward_at (suc (suc (suc (suc zero)))) First h k ts n s = refl
forward_at (suc (suc (suc (suc zero)))) Second h k ts n s = refl
forward_at (suc (suc (suc (suc zero)))) Third h k ts n s = refl
forward_at (suc (suc (suc (suc zero)))) Fourth h k ts n s = refl
forward_at (suc (suc (suc (suc (suc zero))))) First h k ts n s = refl
forward_at (suc (suc (suc (suc (suc zero))))) Second h k ts n s = refl
forward_at (suc (suc (suc (suc (suc zero))))) Third h k ts n s = refl
forward_at (suc (suc (suc (suc (suc zero))))) Fourth h k ts n s = refl
forward_at (suc (suc (suc (suc (suc (suc zero)))))) First h k ts n s = refl
forward_at (suc (suc (suc (suc (suc (suc zero)))))) Second h k ts n s = refl
forward_at (suc (suc (suc (suc (suc (suc zero)))))) Third h k ts n s = refl
forward_at (suc (suc (suc (suc (suc (suc zero)))))) Fourth h k ts n s = refl
forward_at (suc (suc (suc (suc (suc (suc (suc zero))))))) First h k ts n s = refl
forward_at (suc (suc (suc (suc (suc (suc (suc zero))))))) Second h k ts n s = refl
forward_at (suc (suc (suc (suc (suc (suc (suc zero))))))) Third h k ts n s = refl
forward_at (suc (suc (suc (suc (suc (suc (suc zero))))))) Fourth h k ts n s = refl
forward_at (suc (suc (suc (suc (suc (suc (suc (suc i)))))))) t h k ts n s = absurd (omega arith)

epoch : Same Epoch
unfolding rest_at next question_at body_from row kept_triple kept_float used triple_used uses_of line place_used acceleration_used up_to_epoch float_no component stage_question grid_point point_at placed end_of stage after1 after2 after3 kept with_slope rk4 epoch_point surveyed forward backward survey
epoch ts n s = refl

same : (w : Waiting) (e : ℕ) (b : Body) → Counts w e b → Same w
same Epoch e b c = epoch
same (Forward i t) e b c = forward_at i t c.0 c.1
same (Backward i t) e b c = backward_at i t c.0 c.1
same (Survey i) e b c = survey_at i c.0.last c.0.other
same (Pass i) e b c = pass_at i c.2.last c.2.other
same (Step m) e b c = step_at m
same (Tail t) e b c = tail_at t
same TailSample e b c = tail_sample
same Ended e b c = absurd c
same Unknown e b c = absurd c

-- ---- a body with nine of each is the body of its triples
spelled : (run : Run) → Machine run → body_from (triples_of run.body) (counts_in run) run.body.plan.settings.samples ≡ run.body
unfolding body_from triples_of counts_in row
spelled run m =
    ap (λ (l : List Triple). with l (row (λ (i : ℕ). at run.body.places.v i) 9) (row (λ (i : ℕ). at run.body.a i) 9)) (row_of run.body.places.r none 9 m.r)
    ∙ ap (λ (l : List Triple). with run.body.places.r l (row (λ (i : ℕ). at run.body.a i) 9)) (row_of run.body.places.v none 9 m.v)
    ∙ ap (λ (l : List Triple). with run.body.places.r run.body.places.v l) (row_of run.body.a none 9 m.a)
  where
    none : Triple
    none = record { x = nan; y = nan; z = nan }

    with : List Triple → List Triple → List Triple → Body
    with r v a =
        record { plan = run.body.plan; places = record { r = r; v = v }; a = a; slopes = run.body.slopes; widest = run.body.widest; startup_iters = run.body.startup_iters; track = run.body.track; trial = run.body.trial }

pub rest_same : (run : Run) → is_sound run ≡ true → Machine run → rest (cleaned run) ≡ rest run
unfolding rest cleaned
rest_same run t m =
    let w = waits_at run.mark in
    ap (λ (x : Waiting). rest_at x (clean w (triples_of run.body) (counts_in run) run.body.plan.settings.samples)) (read w run.mark.count)
    ∙ same w run.mark.count.evals run.body (to_facts run t).counted (triples_of run.body) (counts_in run) run.body.plan.settings.samples
    ∙ ap (rest_at w) (spelled run m)
