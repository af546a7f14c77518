-- W-201: "Words are 32 bits, little-endian; floats are stored by their bits. The first content word is the form number, 1; counts take four bytes;
-- content not used at this waiting point is zero." The content, 504 words:
--
--     0          the form number, 1
--     1          the waiting point, 1 to 8
--     2          its point or pass, where it has one
--     3          its stage, where it has one
--     4          the question number
--     5          the flag: 1 with samples, 0 without
--     6 to 251   the 123 floats of `Layout`, each by its bits: the lower word, then the upper
--     252 to 257 max_corrector_iters, max_startup_iters, max_steps, the startup passes, the steps, the accepted answers
--     258 to 503 nothing
use Rattle.std.specs.Prelude.{ℕ, ◌-◌, ◌/◌, ◌%◌, ◌^◌, cond, List, [], ◌∷◌, eqb, ltb, get_or}
use Rattle.std.specs.Float.{binary64}
use Rattle.std.specs.Float.Ieee.{to_bits}
use Rattle.triple.specs.declared.Triple.{Triple}
use Rattle.run.specs.declared.Mark.{Mark}
use Rattle.run.specs.declared.Run.{Run}
use Rattle.run.specs.Waiting.{waits_at}
use Rattle.blocks.specs.Rows.{row}
use Rattle.stored.specs.declared.layout.Uses.{Uses}
use Rattle.stored.specs.Layout.{uses_of, used, triples_of, float_no}

unfoldable pub head_of : Mark → Uses → (samples : ℕ) → List ℕ
head_of m u samples = 1 ∷ m.at ∷ cond u.index m.index 0 ∷ cond u.stage m.stage 0 ∷ m.count.number ∷ samples ∷ []

unfoldable pub counts_in : Run → List ℕ
counts_in run =
    run.body.plan.settings.max_corrector_iters
    ∷ run.body.plan.settings.max_startup_iters
    ∷ run.body.plan.settings.max_steps
    ∷ run.body.startup_iters
    ∷ run.body.track.steps
    ∷ run.mark.count.evals
    ∷ []

-- the lower and the upper word of 64 bits
unfoldable pub half : ℕ → ℕ → ℕ
half bits i = cond (eqb i 0) (bits % 2 ^ 32) (bits / 2 ^ 32)

unfoldable pub float_word : Uses → List Triple → ℕ → ℕ
float_word u ts j = cond (used u (j / 2)) (half (to_bits binary64 (float_no ts (j / 2))) (j % 2)) 0

unfoldable pub content_word : List ℕ → Uses → List Triple → List ℕ → ℕ → ℕ
content_word head u ts counts j =
    cond (ltb j 6) (get_or head j 0)
    (cond (ltb j 252) (float_word u ts (j - 6))
    (cond (ltb j 258) (get_or counts (j - 252) 0)
    0))

unfoldable pub content_from : List ℕ → Uses → List Triple → List ℕ → List ℕ
content_from head u ts counts = row (content_word head u ts counts) 504

unfoldable pub content_of_run : Run → List ℕ
content_of_run run =
    let u = uses_of (waits_at run.mark) in
    content_from (head_of run.mark u run.body.plan.settings.samples) u (triples_of run.body) (counts_in run)
