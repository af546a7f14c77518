-- What a call tells as stored is what it wrote.
use Rattle.std.proofs.Common.{◌≡◌, ℕ, ◌+◌, Bool, true, false, cond, eqb, ltb, List, [], length, refl, inl, inr}
use Rattle.triple.specs.declared.Triple.{Triple}
use Rattle.triple.specs.declared.Sample.{Sample}
use Rattle.refusals.specs.declared.Refusal.TheVariants.{SampleRoom}
use Rattle.sums.specs.Sums.{corrected_state}
use Rattle.startup.specs.Passes.{is_settled}
use Rattle.plan.specs.Limits.{wants_samples}
use Rattle.run.specs.declared.Count.{Count}
use Rattle.run.specs.declared.Body.{Body}
use Rattle.run.specs.declared.waiting.Stage.{Stage}
use Rattle.run.specs.declared.waiting.Waiting.{Waiting}
use Rattle.run.specs.declared.waiting.Waiting.TheVariants.{Epoch, Forward, Backward, Survey, Pass, Step, Tail, TailSample, Ended, Unknown}
use Rattle.conditions.specs.Conditions.{is_due, is_tail, is_at_rest}
use Rattle.run.specs.Waiting.{is_last, waits_at}
use Rattle.run.specs.Moves.{launched, pass_made, surveyed, renewed, committed}
use Rattle.run.specs.Samples.{Room, has_room, put_all, start_samples}
use Rattle.run.specs.Sound.{is_sound}
use Rattle.gauss_jackson.specs.declared.Answered.{Answered}
use Rattle.gauss_jackson.specs.declared.Outcome.TheVariants.{Refused}
use Rattle.gauss_jackson.specs.Answers.{Given, quiet, with_stored, next_count, ending, asking, onward, sampling, startup_ended, step_ended, passes_on, pass_ended, rk4_taken, forward_ended, backward_ended, tail_ended, survey_taken, pass_taken, step_taken, last_taken, answered_at, refusing, answered}
use Rattle.gauss_jackson.specs.Stores.{IsNoneOneOrFive, StoresAsTold, StoredIsWritten}

-- ---- an answer that stores none
abbrev Quiet : Answered → Type 0
Quiet x = x.stored ≡ 0

either : (d : Bool) (x y : Answered) → Quiet x → Quiet y → Quiet (cond d x y)
either true x y e f = e
either false x y e f = f

asks_quiet : (w : Waiting) (c : Count) (b : Body) → Quiet (asking w c b)
unfolding asking
asks_quiet w c b = refl

pub onward_quiet : (c : Count) (b : Body) → Quiet (onward c b)
unfolding onward asking ending
onward_quiet c b =
    either (is_due b.plan b.track.t) _ _
    (either (ltb b.track.steps b.plan.settings.max_steps) _ _ (either (is_tail b.plan b.track.t) _ _ refl refl) refl)
    refl

rk4_quiet : (w : Stage → Waiting) (s : Stage) (c : Count) (b : Body) (a : Triple) (x : Answered) → Quiet x → Quiet (rk4_taken w s c b a x)
unfolding rk4_taken
rk4_quiet w s c b a x e = either (is_last s) _ _ e (asks_quiet _ c _)

forward_quiet : (i : ℕ) (c : Count) (b : Body) (a : Triple) → Quiet (forward_ended i c b a)
unfolding forward_ended asking
forward_quiet i c b a = either (ltb i 7) _ _ refl refl

backward_quiet : (i : ℕ) (c : Count) (b : Body) (a : Triple) → Quiet (backward_ended i c b a)
unfolding backward_ended asking
backward_quiet i c b a = either (ltb 1 i) _ _ refl refl

tail_quiet : (c : Count) (b : Body) (a : Triple) → Quiet (tail_ended c b a)
unfolding tail_ended asking ending
tail_quiet c b a = either (wants_samples b.plan.settings) _ _ refl refl

-- ---- what a call gives, by the room that it was lent
module _ (room : Room) where
  abbrev Told : Given → Type 0
  Told x = StoresAsTold x room

  none : (x : Answered) → Quiet x → Told (quiet x room)
  unfolding put_all
  none x e = record { first = 0; samples = []; told = e; few = inl refl; placed = inl refl; written = refl }

  choice : (d : Bool) (x y : Given) → Told x → Told y → Told (cond d x y)
  choice true x y e f = e
  choice false x y e f = f

  due : (n : ℕ) (ss : List Sample) (b : Body) (x : Answered) → IsNoneOneOrFive (length ss) → Quiet x → Told (sampling n ss b room x)
  unfolding sampling with_stored ending
  due n ss b x m e = choice (wants_samples b.plan.settings) _ _ (go (has_room n (length ss) room) refl) (none x e)
    where
      go : (d : Bool) → has_room n (length ss) room ≡ d → Told (cond d (record { got = with_stored (length ss) x; out = put_all n ss room }) (quiet (ending (Refused SampleRoom)) room))
      go true r = record { first = n; samples = ss; told = refl; few = m; placed = inr r; written = refl }
      go false r = none _ refl

  startup_told : (c : Count) (b : Body) → Told (startup_ended c b room)
  unfolding startup_ended start_samples
  startup_told c b = due 0 (start_samples b.plan b.places b.a) b (onward c (launched b)) (inr (inr refl)) (onward_quiet c (launched b))

  step_told : (c : Count) (b : Body) → Told (step_ended c b room)
  unfolding step_ended
  step_told c b = due b.track.steps _ b (onward c b) (inr (inl refl)) (onward_quiet c b)

  last_told : (c : Count) (b : Body) (a : Triple) → Told (last_taken c b a room)
  unfolding last_taken ending
  last_told c b a = due (b.track.steps + 1) _ b _ (inr (inl refl)) refl

  passes_told : (c : Count) (b : Body) → Told (passes_on c b room)
  unfolding passes_on
  passes_told c b = choice (ltb b.startup_iters b.plan.settings.max_startup_iters) _ _ (none _ (asks_quiet _ c _)) (startup_told c b)

  pass_told : (c : Count) (b : Body) → Told (pass_ended c b room)
  unfolding pass_ended
  pass_told c b = choice (is_settled b.plan.settings.startup_tol b.widest) _ _ (startup_told c (pass_made b)) (passes_told c (pass_made b))

  at_step : (n : ℕ) (c : Count) (b : Body) (a : Triple) → Told (step_taken n c b a room)
  unfolding step_taken
  at_step n c b a =
      let y = corrected_state b.plan.h b.track.sums b.trial.fixed a in
      choice (ltb n b.plan.settings.max_corrector_iters) _ _
      (choice (is_at_rest b.plan.settings.corrector_tol b.trial.state y) _ _ (step_told c (committed b y a)) (none _ (asks_quiet _ c _)))
      (step_told c (committed b b.trial.state a))

  at_point : (w : Waiting) (c : Count) (b : Body) (a : Triple) → Told (answered_at w c b a room)
  unfolding answered_at survey_taken pass_taken ending
  at_point Epoch c b a = none _ (asks_quiet _ c _)
  at_point (Forward i s) c b a = none _ (rk4_quiet _ s c b a _ (forward_quiet i c b a))
  at_point (Backward i s) c b a = none _ (rk4_quiet _ s c b a _ (backward_quiet i c b a))
  at_point (Survey i) c b a = choice (ltb i 8) _ _ (none _ (asks_quiet _ c _)) (passes_told c (surveyed i b a))
  at_point (Pass i) c b a = choice (ltb i 8) _ _ (none _ (asks_quiet _ c _)) (pass_told c (renewed i b a))
  at_point (Step n) c b a = at_step n c b a
  at_point (Tail s) c b a = none _ (rk4_quiet _ s c b a _ (tail_quiet c b a))
  at_point TailSample c b a = last_told c b a
  at_point Ended c b a = none _ refl
  at_point Unknown c b a = none _ refl

pub stored_is_written : StoredIsWritten
unfolding answered refusing
stored_is_written run number a room =
    choice room (is_sound run) _ _
    (choice room (eqb run.mark.count.number number) _ _ (at_point room (waits_at run.mark) (next_count run.mark.count) run.body a) (none room _ refl))
    (none room _ refl)
