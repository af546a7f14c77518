-- W-201's two calls. "Refusals: storing gives 7 for an ended or made-up run, then 10 for a buffer that is not 2,048 bytes, which stays untouched; loading
-- gives 10 for a wrong length, block number or check, then 11" for what is no run (`is_stored_run`).
use Rattle.std.specs.Prelude.{ℕ, cond, List, eqb, length, ⊤, Result, Ok, Err}
use Rattle.refusals.specs.declared.Refusal.{Refusal}
use Rattle.refusals.specs.declared.Refusal.TheVariants.{NoQuestion, StoredShape, StoredContent}
use Rattle.run.specs.declared.Run.{Run}
use Rattle.run.specs.Sound.{is_sound}
use Rattle.gauss_jackson.specs.declared.Answered.{Answered}
use Rattle.gauss_jackson.specs.Answers.{refusing, open_question}
use Rattle.blocks.specs.Blocks.{written, is_whole, content_of}
use Rattle.stored.specs.Content.{content_of_run}
use Rattle.stored.specs.Taken.{run_of, is_stored_run}

-- ---- storing: what is told, and the buffer at exit
unfoldable pub storing : Run → (out : List ℕ) → Result ⊤ Refusal
storing run out = cond (is_sound run) (cond (eqb (length out) 2048) (Ok tt) (Err StoredShape)) (Err NoQuestion)

unfoldable pub stored_in : Run → (out : List ℕ) → List ℕ
stored_in run out = cond (is_sound run) (written (content_of_run run) out) out

-- ---- reading: the run of a form; or 10, then 11
unfoldable pub read_run : (bytes : List ℕ) → Result Run Refusal
read_run bytes =
    cond (is_whole bytes) (cond (is_stored_run (content_of bytes)) (Ok (run_of (content_of bytes))) (Err StoredContent)) (Err StoredShape)

-- ---- loading: the run with its open question; or the refusal, and the run that the caller holds stays as it was
unfoldable pub taken_up : Run → Answered
taken_up run = record { run = run; outcome = open_question run; stored = 0 }

unfoldable pub judged : (held : Run) → (content : List ℕ) → Answered
judged held c = cond (is_stored_run c) (taken_up (run_of c)) (refusing held StoredContent)

unfoldable pub loaded : (held : Run) → (bytes : List ℕ) → Answered
loaded held bytes = cond (is_whole bytes) (judged held (content_of bytes)) (refusing held StoredShape)
