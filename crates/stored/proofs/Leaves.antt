-- A refusal leaves all as it was.
use Rattle.std.specs.Prelude.{⊤, Result, Ok, Err}
use mathlib.Core.Path.{◌≡◌, refl, sym, ◌∙◌}
use Prim.Native.Nat.{ℕ}
use native.Mathlib.Omega.{arith}
use mathlib.Core.Bool.{Bool, true, false, ◌&&◌}
use mathlib.Core.List.{List}
use lib.Dec.{eqb}
use lib.ListN.{length}
use Rattle.refusals.specs.declared.Refusal.{Refusal}
use Rattle.run.specs.declared.Run.{Run}
use Rattle.run.specs.Waiting.{waits_at}
use Rattle.run.specs.Sound.{is_sound}
use Rattle.gauss_jackson.specs.declared.Question.{Question}
use Rattle.gauss_jackson.specs.declared.Outcome.TheVariants as outcomes
use Rattle.gauss_jackson.specs.Answers.{question_of, refusing, open_question}
use Rattle.run.proofs.Counts.{both}
use Rattle.blocks.specs.Blocks.{is_whole, content_of, written}
use Rattle.stored.specs.Layout.{uses_of}
use Rattle.stored.specs.Taken.{run_of, is_known, unused_is_zero, is_stored_run}
use Rattle.stored.specs.Stored.{storing, stored_in, taken_up, judged, loaded}
use Rattle.stored.specs.Trips.{LeavesAsItWas}

-- what is asked is not refused, and what is written neither
asked : {A : Type 0} (q : Question) (e : Refusal) → outcomes.Ask q ≡ outcomes.Refused e → A
asked q e h = let z : ◌≡◌ {A = ℕ} 0 1 = cc in absurd (omega arith)

sound_asks : {A : Type 0} (run : Run) (e : Refusal) → is_sound run ≡ true → open_question run ≡ outcomes.Refused e → A
unfolding open_question question_of
sound_asks run e t h = let q : question_of (waits_at run.mark) run.mark.count run.body ≡ outcomes.Refused e = rw t at h in asked _ e q

was_written : {A : Type 0} (t : Result ⊤ Refusal) (e : Refusal) → t ≡ Ok tt → t ≡ Err e → A
was_written t e p r = let z : ◌≡◌ {A = ℕ} 0 1 = cc in absurd (omega arith)

held : (run : Run) (bytes : List ℕ) (e : Refusal) → (loaded run bytes).outcome ≡ outcomes.Refused e → (loaded run bytes).run ≡ run
unfolding loaded judged taken_up refusing is_stored_run
held run bytes e h = go (is_whole bytes) (is_stored_run (content_of bytes)) refl refl
  where
    go : (w s : Bool) → is_whole bytes ≡ w → is_stored_run (content_of bytes) ≡ s → (loaded run bytes).run ≡ run
    go true true p q =
        let c = content_of bytes in
        let t = (both (is_known c && unused_is_zero c (uses_of (waits_at (run_of c).mark)) 504) (is_sound (run_of c)) q).1 in
        let o : (loaded run bytes).outcome ≡ open_question (run_of (content_of bytes)) = rw (p, q) in
        sound_asks (run_of (content_of bytes)) e t (sym o ∙ h)
    go true false p q = rw (p, q)
    go false s p q = rw p

buffer : (run : Run) (out : List ℕ) (e : Refusal) → storing run out ≡ Err e → stored_in run out ≡ out
unfolding storing stored_in written
buffer run out e h = go (is_sound run) (eqb (length out) 2048) refl refl
  where
    go : (s l : Bool) → is_sound run ≡ s → eqb (length out) 2048 ≡ l → stored_in run out ≡ out
    go true true p q = was_written (storing run out) e (rw (p, q)) h
    go true false p q = rw (p, q)
    go false l p q = rw p

pub leaves_as_it_was : LeavesAsItWas
leaves_as_it_was = record { held_run = held; buffer = buffer }
