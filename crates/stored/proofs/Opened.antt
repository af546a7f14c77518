-- When `load` gives a question: each of its tests held.
use mathlib.Core.Path.{◌≡◌, refl}
use Prim.Native.Nat.{ℕ}
use native.Mathlib.Omega.{arith}
use mathlib.Core.Bool.{Bool, true, false}
use mathlib.Core.List.{List}
use Rattle.refusals.specs.declared.Refusal.{Refusal}
use Rattle.refusals.specs.declared.Refusal.TheVariants.{StoredShape, StoredContent}
use Rattle.run.specs.declared.Run.{Run}
use Rattle.run.specs.Waiting.{waits_at}
use Rattle.run.specs.Sound.{is_sound}
use Rattle.gauss_jackson.specs.declared.Question.{Question}
use Rattle.gauss_jackson.specs.declared.Outcome.{Outcome}
use Rattle.gauss_jackson.specs.declared.Outcome.TheVariants.{Ask, Refused}
use Rattle.gauss_jackson.specs.Answers.{refusing}
use Rattle.blocks.specs.Blocks.{is_whole, content_of}
use Rattle.run.proofs.Counts.{both}
use Rattle.stored.specs.Layout.{uses_of}
use Rattle.stored.specs.Taken.{run_of, is_known, unused_is_zero, is_stored_run}
use Rattle.stored.specs.Stored.{taken_up, judged, loaded}

pub record Opened (held : Run) (bytes : List ℕ) : Type 0 where
  pub whole : is_whole bytes ≡ true
  pub known : is_known (content_of bytes) ≡ true
  pub zeros : unused_is_zero (content_of bytes) (uses_of (waits_at (run_of (content_of bytes)).mark)) 504 ≡ true
  pub sound : is_sound (run_of (content_of bytes)) ≡ true
  pub run : (loaded held bytes).run ≡ run_of (content_of bytes)

-- a refusal asks nothing
never : {A : Type 0} (o : Outcome) (e : Refusal) (q : Question) → o ≡ Ask q → o ≡ Refused e → A
never o e q p r = let z : ◌≡◌ {A = ℕ} 0 1 = cc in absurd (omega arith)

pub opened : (held : Run) (bytes : List ℕ) (q : Question) → (loaded held bytes).outcome ≡ Ask q → Opened held bytes
unfolding loaded judged taken_up refusing is_stored_run
opened held bytes q t = go (is_whole bytes) (is_stored_run (content_of bytes)) refl refl
  where
    go : (w s : Bool) → is_whole bytes ≡ w → is_stored_run (content_of bytes) ≡ s → Opened held bytes
    go true true e f =
        let h = both _ _ f in
        let k = both _ _ h.0 in
        record { whole = e; known = k.0; zeros = k.1; sound = h.1; run = rw (e, f) }
    go true false e f = never (loaded held bytes).outcome StoredContent q t (rw (e, f))
    go false s e f = never (loaded held bytes).outcome StoredShape q t (rw e)
