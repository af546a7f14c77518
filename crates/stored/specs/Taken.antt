-- W-201, loading: the run of a content, and which contents are one. "Floats are taken as they come."
use Rattle.std.specs.Prelude.{ℕ, zero, suc, ◌+◌, ◌-◌, ◌*◌, ◌/◌, ◌^◌, Bool, true, ◌&&◌, ◌||◌, cond, List, [], ◌∷◌, eqb, ltb, leb, get_or, Float}
use Rattle.std.specs.Float.{binary64}
use Rattle.std.specs.Float.Ieee.{of_bits}
use Rattle.triple.specs.declared.Triple.{Triple}
use Rattle.triple.specs.Nine.{at}
use Rattle.run.specs.declared.Body.{Body}
use Rattle.run.specs.declared.Run.{Run}
use Rattle.run.specs.Waiting.{waits_at}
use Rattle.run.specs.Sound.{is_sound}
use Rattle.blocks.specs.Rows.{row}
use Rattle.stored.specs.declared.layout.Uses.{Uses}
use Rattle.stored.specs.Layout.{uses_of, used}

-- ---- the run
unfoldable pub float_at : List ℕ → ℕ → Float
float_at c k = of_bits binary64 (get_or c (6 + 2 * k) 0 + 2 ^ 32 * get_or c (6 + 2 * k + 1) 0)

unfoldable pub triple_at : List ℕ → ℕ → Triple
triple_at c q = record { x = float_at c (3 * q); y = float_at c (3 * q + 1); z = float_at c (3 * q + 2) }

unfoldable pub triples_in : List ℕ → List Triple
triples_in c = row (triple_at c) 41

unfoldable pub counts_at : List ℕ → List ℕ
counts_at c = get_or c 252 0 ∷ get_or c 253 0 ∷ get_or c 254 0 ∷ get_or c 255 0 ∷ get_or c 256 0 ∷ get_or c 257 0 ∷ []

-- as `triples_of` has them, with the six counts
unfoldable pub body_from : List Triple → List ℕ → (samples : ℕ) → Body
body_from f n samples =
    record {
      plan =
          record {
            settings =
                record {
                  h = (at f 39).x;
                  corrector_tol = (at f 39).y;
                  startup_tol = (at f 39).z;
                  max_corrector_iters = get_or n 0 0;
                  max_startup_iters = get_or n 1 0;
                  max_steps = get_or n 2 0;
                  samples = samples;
                };
            t0 = (at f 40).x;
            tf = (at f 40).y;
            h = (at f 40).z;
          };
      places =
          record {
            r = at f 0 ∷ at f 1 ∷ at f 2 ∷ at f 3 ∷ at f 4 ∷ at f 5 ∷ at f 6 ∷ at f 7 ∷ at f 8 ∷ [];
            v = at f 9 ∷ at f 10 ∷ at f 11 ∷ at f 12 ∷ at f 13 ∷ at f 14 ∷ at f 15 ∷ at f 16 ∷ at f 17 ∷ [];
          };
      a = at f 18 ∷ at f 19 ∷ at f 20 ∷ at f 21 ∷ at f 22 ∷ at f 23 ∷ at f 24 ∷ at f 25 ∷ at f 26 ∷ [];
      slopes = record { l1 = at f 27; l2 = at f 28; l3 = at f 29 };
      widest = record { delta = (at f 38).x; mag = (at f 38).y };
      startup_iters = get_or n 3 0;
      track =
          record {
            t = (at f 38).z;
            steps = get_or n 4 0;
            state = record { r = at f 30; v = at f 31 };
            sums = record { s = at f 32; big_s = at f 33 };
          };
      trial = record { state = record { r = at f 34; v = at f 35 }; fixed = record { fa = at f 36; fb = at f 37 } };
    }

unfoldable pub run_of : List ℕ → Run
run_of c =
    record {
      mark = record { at = get_or c 1 0; index = get_or c 2 0; stage = get_or c 3 0; count = record { number = get_or c 4 0; evals = get_or c 257 0 } };
      body = body_from (triples_in c) (counts_at c) (get_or c 5 0);
    }

-- ---- whether it is one
-- form 1, a waiting point that there is, a flag of 0 or 1; and no number that its place in a run could not hold
unfoldable pub is_known : List ℕ → Bool
is_known c =
    eqb (get_or c 0 0) 1
    && leb 1 (get_or c 1 0)
    && leb (get_or c 1 0) 8
    && leb (get_or c 2 0) 255
    && leb (get_or c 3 0) 255
    && leb (get_or c 4 0) 65535
    && leb (get_or c 5 0) 1

-- word j of the content is used: the index, the stage and the floats where the waiting point has them
unfoldable pub word_used : Uses → ℕ → Bool
word_used u j =
    cond (eqb j 2) u.index
    (cond (eqb j 3) u.stage
    (cond (ltb j 6) true
    (cond (ltb j 252) (used u ((j - 6) / 2))
    (ltb j 258))))

unfoldable pub still_zero : Bool → Bool → ℕ → Bool
still_zero so_far is_used word = so_far && (is_used || eqb word 0)

-- of the first n words each that is not used is zero
unfoldable pub unused_is_zero : List ℕ → Uses → ℕ → Bool
unused_is_zero c u zero = true
unused_is_zero c u (suc n) = still_zero (unused_is_zero c u n) (word_used u n) (get_or c n 0)

-- "11 for another form number, an unknown waiting point, a flag above 1, unused content that is not zero, or a run that 01's answer 7 calls made up"
unfoldable pub is_stored_run : List ℕ → Bool
is_stored_run c = is_known c && unused_is_zero c (uses_of (waits_at (run_of c).mark)) 504 && is_sound (run_of c)
