-- Demand 2 as one statement: any line of calls from `start` is told, and leaves in its rooms, what the rules give.
-- The proof is `follows_the_rules` in proofs/Follows.antt; the contracts of `start` and `answer` are equations with `started` and `answered`.
use Rattle.std.specs.Prelude.{◌≡◌, ℕ, true, false, List, [], ◌∷◌, eqb, Float}
use Rattle.triple.specs.declared.Triple.{Triple}
use Rattle.triple.specs.declared.Point.{Point}
use Rattle.plan.specs.declared.Settings.{Settings}
use Rattle.run.specs.declared.Run.{Run}
use Rattle.run.specs.Sound.{is_sound}
use Rattle.gauss_jackson.specs.declared.Question.{Question}
use Rattle.gauss_jackson.specs.declared.Outcome.TheVariants.{Ask}
use Rattle.gauss_jackson.specs.Answers.{Given, answered, started, open_question}
use Rattle.rules.specs.Walk.{question, told, Call, Result, walk, begin}

-- what the caller has of one call of `answer`
abbrev pub heard : Given → Result
heard t = record { said = told t.got.outcome; stored = t.got.stored; out = t.out }

-- calls one after the other, each on the run that the one before left
unfoldable pub played : Run → List Call → List Result
played run [] = []
played run (c ∷ cs) =
    heard (answered run c.number c.a c.out) ∷ played (answered run c.number c.a c.out).got.run cs

-- for every start and every list of calls, refused ones among them
pub record FollowsTheRules (s : Settings) (t0 tf : Float) (r0 v0 : Triple) (cs : List Call) : Type 0 where
  pub first : told (started s t0 tf r0 v0).outcome ≡ (begin s t0 tf r0 v0).said
  pub then : played (started s t0 tf r0 v0).run cs ≡ walk (begin s t0 tf r0 v0).line cs

-- where a call asks, the run that it gives is one that answer 7 does not refuse: a line from `start` never meets 7 while a question is open
pub record NeverSeven : Type 0 where
  pub after_start : (s : Settings) (t0 tf : Float) (r0 v0 : Triple) (q : Question) → (started s t0 tf r0 v0).outcome ≡ Ask q → is_sound (started s t0 tf r0 v0).run ≡ true
  pub after_answer : (run : Run) (c : Call) (q : Question)
      → (answered run c.number c.a c.out).got.outcome ≡ Ask q
      → is_sound (answered run c.number c.a c.out).got.run ≡ true

-- `open_question` tells the question last asked, in the same words; a call under another number leaves the run, and so the question, as it was
pub record TellsAgain : Type 0 where
  pub after_start : (s : Settings) (t0 tf : Float) (r0 v0 : Triple) (n : ℕ) (q : Point)
      → told (started s t0 tf r0 v0).outcome ≡ question n q → told (open_question (started s t0 tf r0 v0).run) ≡ question n q
  pub after_answer : (run : Run) (c : Call) (n : ℕ) (q : Point)
      → told (answered run c.number c.a c.out).got.outcome ≡ question n q
      → told (open_question (answered run c.number c.a c.out).got.run) ≡ question n q
  pub after_refusal : (run : Run) (c : Call) → eqb run.mark.count.number c.number ≡ false → (answered run c.number c.a c.out).got.run ≡ run
