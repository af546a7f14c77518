-- Samples that are due, and then an answer: what the code tests and stores is `sampling`.
use Rattle.std.proofs.Common.{◌≡◌, ℕ, Bool, true, false, cond, List, [], ◌∷◌, length, sym, refl, ap, ◌∙◌}
use mathlib.Core.Bool.{false≢true}
use lib.Ieee.{Float}
use Rattle.triple.specs.declared.Sample.{Sample}
use Rattle.refusals.specs.declared.Refusal.TheVariants.{SampleRoom}
use Rattle.plan.specs.Limits.{wants_samples}
use Rattle.run.specs.declared.Body.{Body}
use Rattle.run.specs.Samples.{Room, tens, is_placed, has_room, put, put_all, has_place, kept_sample, kept_points, start_samples}
use Rattle.run.proofs.Placing.{points_put, points_off}
use Rattle.gauss_jackson.specs.declared.Answered.{Answered}
use Rattle.gauss_jackson.specs.declared.Outcome.TheVariants.{Refused}
use Rattle.gauss_jackson.specs.Answers.{Given, quiet, ending, with_stored, sampling}

module _ {A : Type 0} where
  pub pick_true : (p : Bool) (x y r : A) → p ≡ true → r ≡ x → r ≡ cond p x y
  pick_true p x y r e f = rw e f

  pub pick_false : (p : Bool) (x y r : A) → p ≡ false → r ≡ y → r ≡ cond p x y
  pick_false p x y r e f = rw e f

-- a row of samples that are due, in a room of the numbers l that begins at sample `from`; r is the code's answer, and o the room as it leaves it
module _ (n : ℕ) (ss : List Sample) (b : Body) (from : ℕ) (l : List Float) (x : Answered) where
  abbrev wanted : Bool
  wanted = wants_samples b.plan.settings

  abbrev due : Bool → Given
  due d =
      cond d
      (cond (is_placed from n (length ss) (length l)) (record { got = with_stored (length ss) x; out = put_all n ss (tens from l) }) (quiet (ending (Refused SampleRoom)) (tens from l)))
      (quiet x (tens from l))

  full_is : (d : Bool) → cond d (is_placed from n (length ss) (length l)) true ≡ false → due d ≡ quiet (ending (Refused SampleRoom)) (tens from l)
  full_is true e = rw e
  full_is false e = absurd (false≢true (sym e))

  stored_is : (d : Bool) (o : Room) → cond d (is_placed from n (length ss) (length l)) true ≡ true
      → (d ≡ true → is_placed from n (length ss) (length l) ≡ true → o ≡ put_all n ss (tens from l)) → (d ≡ false → o ≡ tens from l)
      → due d ≡ record { got = cond d (with_stored (length ss) x) x; out = o }
  stored_is true o e f g = rw (e, f refl e)
  stored_is false o e f g = rw (g refl)

  -- w says whether samples are wanted, and q whether they have their place
  module _ (w q : Bool) (says : w ≡ wanted) (placed : q ≡ has_place w from n (length ss) (length l)) where
    place_is : (d : Bool) → q ≡ d → has_place wanted from n (length ss) (length l) ≡ d
    place_is d e = ap (λ (v : Bool). has_place v from n (length ss) (length l)) (sym says) ∙ sym placed ∙ e

    -- no room: refusal 6
    pub no_room : (r : Answered) → q ≡ false → r ≡ ending (Refused SampleRoom)
        → (r ≡ (sampling n ss b (tens from l) x).got) × (tens from l ≡ (sampling n ss b (tens from l) x).out)
    unfolding has_place has_room sampling
    no_room r e g = let z = full_is wanted (place_is false e) in (g ∙ sym (ap (λ (t : Given). t.got) z), sym (ap (λ (t : Given). t.out) z))

    -- room: they are stored
    stored : (r : Answered) (o : Room) → q ≡ true
        → (wanted ≡ true → has_room n (length ss) (tens from l) ≡ true → o ≡ put_all n ss (tens from l)) → (wanted ≡ false → o ≡ tens from l)
        → r ≡ cond w (with_stored (length ss) x) x
        → (r ≡ (sampling n ss b (tens from l) x).got) × (o ≡ (sampling n ss b (tens from l) x).out)
    unfolding has_place has_room sampling
    stored r o e f g h =
        let z = stored_is wanted o (place_is true e) f g in
        (h ∙ ap (λ (v : Bool). cond v (with_stored (length ss) x) x) says ∙ sym (ap (λ (t : Given). t.got) z), sym (ap (λ (t : Given). t.out) z))

-- one sample
one_put : (d : Bool) (from n : ℕ) (s : Sample) (l : List Float) → d ≡ true → has_room n 1 (tens from l) ≡ true
    → tens from (kept_sample d from n s l) ≡ put_all n (s ∷ []) (tens from l)
unfolding kept_sample has_room put_all put
one_put d from n s l e f = rw (e, f)

one_off : (d : Bool) (from n : ℕ) (s : Sample) (l : List Float) → d ≡ false → tens from (kept_sample d from n s l) ≡ tens from l
unfolding kept_sample
one_off d from n s l e = rw e

pub stored_one : (n : ℕ) (s : Sample) (b : Body) (from : ℕ) (l : List Float) (x : Answered) (w q : Bool)
    → w ≡ wants_samples b.plan.settings → q ≡ has_place w from n 1 (length l)
    → (r : Answered) (o : Room) → q ≡ true → o ≡ tens from (kept_sample w from n s l) → r ≡ cond w (with_stored 1 x) x
    → (r ≡ (sampling n (s ∷ []) b (tens from l) x).got) × (o ≡ (sampling n (s ∷ []) b (tens from l) x).out)
stored_one n s b from l x w q says placed r o e f h =
    stored n (s ∷ []) b from l x w q says placed r o e
    (λ d g. f ∙ one_put w from n s l (says ∙ d) g) (λ d. f ∙ one_off w from n s l (says ∙ d)) h

-- the startup's five
pub stored_points : (b : Body) (from : ℕ) (l : List Float) (x : Answered) (w q : Bool)
    → w ≡ wants_samples b.plan.settings → q ≡ has_place w from 0 5 (length l)
    → (r : Answered) (o : Room) → q ≡ true → o ≡ tens from (kept_points w from b.plan b.places b.a l) → r ≡ cond w (with_stored 5 x) x
    → (r ≡ (sampling 0 (start_samples b.plan b.places b.a) b (tens from l) x).got)
    × (o ≡ (sampling 0 (start_samples b.plan b.places b.a) b (tens from l) x).out)
unfolding start_samples
stored_points b from l x w q says placed r o e f h =
    stored 0 (start_samples b.plan b.places b.a) b from l x w q says placed r o e
    (λ d g. f ∙ kept (says ∙ d) ∙ points_put from b.plan b.places b.a l g)
    (λ d. f ∙ kept (says ∙ d) ∙ ap (λ (k : List Float). tens from k) (points_off from b.plan b.places b.a l))
    h
  where
    kept : {d : Bool} → w ≡ d → tens from (kept_points w from b.plan b.places b.a l) ≡ tens from (kept_points d from b.plan b.places b.a l)
    kept g = ap (λ (v : Bool). tens from (kept_points v from b.plan b.places b.a l)) g
