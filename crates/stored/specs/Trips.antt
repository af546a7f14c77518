-- What storing and loading make of each other. The proofs are `loaded_is_stored`, `stored_is_loaded` and `leaves_as_it_was` in proofs/.
use Rattle.std.specs.Prelude.{◌≡◌, ℕ, ◌+◌, ◌-◌, ◌*◌, ◌/◌, ◌%◌, ◌<◌, Bool, true, ◌&&◌, cond, List, T, ltb, leb, length, get_or, Float, Ok, Err}
use Rattle.std.specs.Float.{binary64}
use Rattle.std.specs.Float.Ieee.{is_nan, fits}
use Rattle.triple.specs.declared.Triple.{Triple}
use Rattle.triple.specs.Arithmetic.{nought}
use Rattle.refusals.specs.declared.Refusal.{Refusal}
use Rattle.run.specs.declared.Run.{Run}
use Rattle.run.specs.Waiting.{mark_at, waits_at}
use Rattle.run.specs.Sound.{is_sound}
use Rattle.gauss_jackson.specs.declared.Question.{Question}
use Rattle.gauss_jackson.specs.declared.Outcome.TheVariants.{Ask, Refused}
use Rattle.blocks.specs.Rows.{row}
use Rattle.blocks.specs.Blocks.{form, content_of}
use Rattle.blocks.specs.Trips.{Below}
use Rattle.stored.specs.declared.layout.Uses.{Uses}
use Rattle.stored.specs.Layout.{uses_of, used, triples_of, float_no}
use Rattle.stored.specs.Content.{half, counts_in}
use Rattle.stored.specs.Taken.{float_at, body_from}
use Rattle.stored.specs.Stored.{storing, stored_in, taken_up, loaded}

-- ---- "Storing a loaded form gives the same bytes."
-- The language knows one NaN, and tells nothing of its bits: every pattern of a NaN is read as that one, and stored as this pattern.
abbrev pub quiet_nan : ℕ
quiet_nan = 0x7ff8_0000_0000_0000

-- word j of a content belongs to a NaN
unfoldable pub is_nan_word : List ℕ → ℕ → Bool
is_nan_word c j = leb 6 j && ltb j 252 && is_nan (float_at c ((j - 6) / 2))

-- a content with every NaN by that pattern: all other words are as they were
unfoldable pub quiet_word : List ℕ → ℕ → ℕ
quiet_word c j = cond (is_nan_word c j) (half quiet_nan ((j - 6) % 2)) (get_or c j 0)

unfoldable pub quieted : List ℕ → List ℕ
quieted c = row (quiet_word c) 504

-- a form that `load` took, stored again: the same content, but for the patterns of NaN, and so the same bytes where each NaN has that pattern
pub record StoredAgain (bytes : List ℕ) (run : Run) : Type 0 where
  pub accepted : (out : List ℕ) → length out ≡ 2048 → storing run out ≡ Ok tt
  pub quiet : (out : List ℕ) → length out ≡ 2048 → stored_in run out ≡ form (quieted (content_of bytes))
  pub same : (out : List ℕ) → length out ≡ 2048 → quieted (content_of bytes) ≡ content_of bytes → stored_in run out ≡ bytes

abbrev pub LoadedIsStored : Type 0
LoadedIsStored = (held : Run) (bytes : List ℕ) (q : Question) → Below 256 bytes → (loaded held bytes).outcome ≡ Ask q → StoredAgain bytes (loaded held bytes).run

-- ---- a stored run, loaded: what its waiting point uses, and zeros
unfoldable pub kept_float : Uses → List Triple → ℕ → Float
kept_float u ts k = cond (used u k) (float_no ts k) nought

unfoldable pub kept_triple : Uses → List Triple → ℕ → Triple
kept_triple u ts q = record { x = kept_float u ts (3 * q); y = kept_float u ts (3 * q + 1); z = kept_float u ts (3 * q + 2) }

unfoldable pub cleaned : Run → Run
cleaned run =
    let w = waits_at run.mark in
    record {
      mark = mark_at w run.mark.count;
      body = body_from (row (kept_triple (uses_of w) (triples_of run.body)) 41) (counts_in run) run.body.plan.settings.samples;
    }

-- its floats are binary64, as every f64 is
abbrev pub Floats : Run → Type 0
Floats run = (k : ℕ) → k < 123 → T (fits binary64 (float_no (triples_of run.body) k))

abbrev pub StoredIsLoaded : Type 0
StoredIsLoaded = (held run : Run) (out : List ℕ) → is_sound run ≡ true → Floats run → length out ≡ 2048 → loaded held (stored_in run out) ≡ taken_up (cleaned run)

-- ---- a refusal leaves all as it was: the run that the caller of `load` holds, and the buffer that was lent to `store`
pub record LeavesAsItWas : Type 0 where
  pub held_run : (held : Run) (bytes : List ℕ) (e : Refusal) → (loaded held bytes).outcome ≡ Refused e → (loaded held bytes).run ≡ held
  pub buffer : (run : Run) (out : List ℕ) (e : Refusal) → storing run out ≡ Err e → stored_in run out ≡ out
