-- 01, "Numbered answers": "3 NoDenseOutput: fewer than 2 samples", "4 InterpOutOfBounds: a time below the lower or above the upper end sample",
-- "9 shape: in interpolation: sample numbers not a multiple of 10, or output below 6 numbers a time"; "Interpolation 9, 3, 4; output past 6 numbers
-- a time is untouched." Since W-203 the six are nine: "Its answer grows from six numbers to nine; both interpolations hand it on. Refusals: 9 reads
-- nine numbers a time for the output." A refusal leaves the output untouched, "for a batch wholly".
use Rattle.std.specs.Prelude.{ℕ, ◌+◌, ◌*◌, ◌/◌, ◌%◌, Bool, ◌||◌, not, cond, List, [], ◌∷◌, ltb, eqb, length, set, Float, ⊤, Result, Ok, Err}
use Rattle.std.specs.List.{list_any}
use Rattle.std.specs.Float.Ieee.{lt}
use Rattle.triple.specs.Sampled.{sample_width}
use Rattle.refusals.specs.declared.Refusal.{Refusal}
use Rattle.refusals.specs.declared.Refusal.TheVariants.{NoDenseOutput, InterpOutOfBounds, Shape}
use Rattle.quintic.specs.declared.Between.{Between}
use Rattle.quintic.specs.Quintic.{quintic_hermite}
use Rattle.intervals.specs.declared.Ends.{Ends}
use Rattle.intervals.specs.Table.{count_of, sample_of}
use Rattle.intervals.specs.Intervals.{ends_of, interval_of, walked_to}

-- how many numbers a time takes: position, velocity, acceleration
abbrev pub between_numbers : ℕ
between_numbers = 9

-- ---- what is told
-- 9
unfoldable pub is_misshapen : List Float → List Float → List Float → Bool
is_misshapen times samples out = not (eqb (length samples % sample_width) 0) || ltb (length out) (between_numbers * length times)

-- 4
unfoldable pub is_outside : Ends → Float → Bool
is_outside e t = lt t e.lower || lt e.upper t

abbrev pub any_outside : Ends → List Float → Bool
any_outside e ts = list_any (is_outside e) ts

-- 9, 3, 4
unfoldable pub judged : List Float → List Float → List Float → Result ⊤ Refusal
judged times samples out =
    cond (is_misshapen times samples out)
    (Err Shape)
    (cond (ltb (count_of samples) 2)
    (Err NoDenseOutput)
    (cond (any_outside (ends_of samples) times) (Err InterpOutOfBounds) (Ok tt)))

-- ---- what is written
-- on interval k, by its quintic
unfoldable pub value_at : List Float → ℕ → Float → Between
value_at l k t = quintic_hermite (sample_of l k) (sample_of l (k + 1)) t

-- the numbers from place p on
abbrev pub put_from : ℕ → Between → List Float → List Float
put_from p b out =
    set (set (set (set (set (set (set (set (set out
    p b.r.x) (p + 1) b.r.y) (p + 2) b.r.z)
    (p + 3) b.v.x) (p + 4) b.v.y) (p + 5) b.v.z)
    (p + 6) b.a.x) (p + 7) b.a.y) (p + 8) b.a.z

-- time j takes `between_numbers` numbers, if they have room
unfoldable pub written : ℕ → Between → List Float → List Float
written j b out = cond (ltb j (length out / between_numbers)) (put_from (between_numbers * j) b out) out

-- the batch from time j on, with the walk at interval k: each time in turn, on from where the one before it stood
unfoldable pub written_all : List Float → ℕ → ℕ → List Float → List Float → List Float
written_all l j k [] out = out
written_all l j k (t ∷ ts) out = written_all l (j + 1) (walked_to l t k) ts (written j (value_at l (walked_to l t k) t) out)

-- ---- the output when the call returns: `new`, or untouched by a refusal
unfoldable pub unless : Result ⊤ Refusal → List Float → List Float → List Float
unless (Ok u) new old = new
unless (Err e) new old = old

unfoldable pub interpolated : Float → List Float → List Float → List Float
interpolated t samples out =
    unless (judged (t ∷ []) samples out) (written 0 (value_at samples (interval_of samples t) t) out) out

unfoldable pub batched : List Float → List Float → List Float → List Float
batched times samples out = unless (judged times samples out) (written_all samples 0 0 times out) out
