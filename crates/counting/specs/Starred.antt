-- 01, "Examples at the edges": those marked *, as one table. The proof is `starred` in proofs/Starred.antt.
use Rattle.std.specs.Prelude.{◌≡◌, ℕ, zero, suc, true, false, List, [], ◌∷◌, ℤ, pos, negsuc, length, Float}
use Rattle.std.specs.Float.{nan, fin, binary64}
use Rattle.std.specs.Float.Ieee.{of_int, eq}
use Rattle.triple.specs.declared.Triple.{Triple}
use Rattle.triple.specs.declared.Sample.{Sample}
use Rattle.triple.specs.Arithmetic.{nought}
use Rattle.quintic.specs.declared.Between.{Between}
use Rattle.quintic.specs.Quintic.{quintic_hermite}
use Rattle.plan.specs.declared.Settings.{Settings}
use Rattle.plan.specs.Limits.{max_steps}
use Rattle.plan.specs.Plan.{plan_of}
use Rattle.plan.specs.Lawful.{is_lawful}
use Rattle.rules.specs.Rules.{integrate}
use Rattle.rules.specs.Walk.{refused, no_room, settle, begin}
use Rattle.counting.specs.Paths.{Claims, Always}

-- what must come out, whatever the accelerations are
pub data Expected : Type 0 where
  no_run : (refusal : ℕ) → Expected  -- the start is refused
  finishes : (t : Float) → (steps answers : ℕ) → (times : List Float) → Expected  -- and the times of all samples
  exceeds_at : (answers : ℕ) → Expected  -- refusal 2 to this answer
  reads : Between → Expected  -- position, velocity and acceleration

-- number n of a row
unfoldable pub At : List Float → ℕ → Float → Type 0
At [] n x = ⊥
At (t ∷ ts) zero x = x ≡ t
At (t ∷ ts) (suc n) x = At ts n x

unfoldable pub expecting : Expected → Claims
expecting (no_run i) = record { sample = λ (n : ℕ) (x : Float). ⊥; finish = λ (e n : ℕ) (x : Float) (k s : ℕ). ⊥; excess = λ (e n : ℕ). ⊥ }
expecting (finishes t steps answers times) =
    record {
      sample = At times;
      finish = λ (e n : ℕ) (x : Float) (k s : ℕ). (x ≡ t) × (k ≡ steps) × (e ≡ answers) × (n ≡ length times);
      excess = λ (e n : ℕ). ⊥;
    }
expecting (reads y) = record { sample = λ (n : ℕ) (x : Float). ⊥; finish = λ (e n : ℕ) (x : Float) (k s : ℕ). ⊥; excess = λ (e n : ℕ). ⊥ }
expecting (exceeds_at answers) =
    record { sample = λ (n : ℕ) (x : Float). Unit {0}; finish = λ (e n : ℕ) (x : Float) (k s : ℕ). ⊥; excess = λ (e n : ℕ). e ≡ answers }

-- the start is accepted, and goes by the whole tree
abbrev pub Accepted : Settings → Float → Float → Triple → Triple → Type 0
Accepted s t0 tf r0 v0 = begin s t0 tf r0 v0 ≡ settle (integrate (plan_of s t0 tf) r0 v0) 0 0 no_room

-- an example: a start, or the curve between two samples read at a time
pub data Example : Type 0 where
  run : Settings → (t0 tf : Float) → Example
  curve : (before after : Sample) → (t : Float) → Example

abbrev pub Meets : Triple → Triple → Example → Expected → Type 0
Meets r0 v0 (run s t0 tf) (no_run i) = (begin s t0 tf r0 v0).said ≡ refused i
Meets r0 v0 (run s t0 tf) (finishes t steps answers times) =
    Accepted s t0 tf r0 v0 × Always (expecting (finishes t steps answers times)) 0 0 (integrate (plan_of s t0 tf) r0 v0)
Meets r0 v0 (run s t0 tf) (exceeds_at answers) = Accepted s t0 tf r0 v0 × Always (expecting (exceeds_at answers)) 0 0 (integrate (plan_of s t0 tf) r0 v0)
Meets r0 v0 (run s t0 tf) (reads y) = ⊥
Meets r0 v0 (curve before after t) (no_run i) = ⊥
Meets r0 v0 (curve before after t) (finishes u steps answers times) = ⊥
Meets r0 v0 (curve before after t) (exceeds_at answers) = ⊥
Meets r0 v0 (curve before after t) (reads y) = quintic_hermite before after t ≡ y

-- ---- the table
pub record Row : Type 0 where
  pub example : Example
  pub expected : Expected

abbrev whole : ℕ → Float
whole n = of_int binary64 (pos n)

-- "S = 1, C = 1, tolerances 0, no samples unless said"
abbrev set : ℤ → ℕ → ℕ → Settings
set h limit samples =
    record {
      h = of_int binary64 h;
      corrector_tol = nought;
      startup_tol = nought;
      max_corrector_iters = 1;
      max_startup_iters = 1;
      max_steps = limit;
      samples = samples;
    }

abbrev row : ℕ → Float → ℤ → ℕ → ℕ → Expected → Row
row t0 tf h limit samples e = record { example = run (set h limit samples) (whole t0) tf; expected = e }

-- a sample whose three components are alike: t, then r, v, a, all whole
abbrev each : Float → Triple
each x = record { x = x; y = x; z = x }

abbrev sample : ℕ → ℕ → ℕ → ℕ → Sample
sample t r v a = record { t = whole t; r = each (whole r); v = each (whole v); a = each (whole a) }

-- start, end, h, max_steps, samples
abbrev pub starred_rows : List Row
starred_rows =
    row 0 (whole 8) (pos 1) max_steps 0 (finishes (whole 8) 8 57 [])
    ∷ row 0 (whole 9) (pos 1) max_steps 0 (finishes (whole 9) 9 59 [])
    ∷ row 0 (whole 17) (pos 2) max_steps 0 (finishes (whole 17) 9 61 [])
    ∷ row 0 (whole 17) (pos 2) max_steps 1
    (finishes (whole 17) 9 62 (whole 0 ∷ whole 2 ∷ whole 4 ∷ whole 6 ∷ whole 8 ∷ whole 10 ∷ whole 12 ∷ whole 14 ∷ whole 16 ∷ whole 17 ∷ []))
    ∷ row 0 (whole 15) (pos 2) max_steps 0 (no_run 1)
    ∷ row 0 (whole 16) (pos 2) max_steps 0 (finishes (whole 16) 8 57 [])
    ∷ row 100 (whole 20) (negsuc 9) max_steps 1
    (finishes (whole 20) 8 57 (whole 100 ∷ whole 90 ∷ whole 80 ∷ whole 70 ∷ whole 60 ∷ whole 50 ∷ whole 40 ∷ whole 30 ∷ whole 20 ∷ []))
    ∷ row 7 (whole 7) (pos 1) max_steps 0 (no_run 1)
    ∷ row 0 (whole 8) (pos 0) max_steps 0 (no_run 1)
    ∷ row 0 (whole 8) (pos 1) 7 0 (exceeds_at 55)
    ∷ row 0 (whole 8) (pos 1) 4 0 (exceeds_at 49)
    ∷ row 0 (whole 8) (pos 1) 0 0 (exceeds_at 49)
    -- 01 has this row as "finished after startup"; W-202: "the NaN example of 01 becomes this refusal"
    ∷ row 0 nan (pos 1) max_steps 0 (no_run 12)
    -- "Quintic, 0 to 1, one component, r v a = 0 0 0 and 1 5 20, at 0.5: 0.03125 and 0.3125", and since W-203 2.5: at 2 ^ -1, 2 ^ -5, 5 * 2 ^ -4
    -- and 5 * 2 ^ -1
    ∷ record {
      example = curve (sample 0 0 0 0) (sample 1 1 5 20) (fin false 1 (negsuc 0));
      expected = reads (record { r = each (fin false 1 (negsuc 4)); v = each (fin false 5 (negsuc 3)); a = each (fin false 5 (negsuc 0)) });
    }
    ∷ []

unfoldable pub AllMeet : Triple → Triple → List Row → Type 0
AllMeet r0 v0 [] = Unit {0}
AllMeet r0 v0 (r ∷ rs) = Meets r0 v0 r.example r.expected × AllMeet r0 v0 rs

-- the examples marked *, whatever position and velocity a run starts from
abbrev pub Starred : Type 0
Starred = (r0 v0 : Triple) → AllMeet r0 v0 starred_rows

-- ---- "t0 = tf, and h 0: refusal 1": the table has one row of each; these say it of every start that passes 5 and 12
abbrev pub NoSpan : Type 0
NoSpan = (s : Settings) (t0 tf : Float) (r0 v0 : Triple) → is_lawful (plan_of s t0 tf) ≡ true → eq t0 tf ≡ true → (begin s t0 tf r0 v0).said ≡ refused 1

abbrev pub NoStep : Type 0
NoStep = (s : Settings) (t0 tf : Float) (r0 v0 : Triple) → is_lawful (plan_of s t0 tf) ≡ true → eq s.h nought ≡ true → (begin s t0 tf r0 v0).said ≡ refused 1
