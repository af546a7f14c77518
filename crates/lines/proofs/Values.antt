-- Hex digits read one after another.
use mathlib.Core.Path.{◌≡◌, refl, ◌∙◌, ap}
use Prim.Native.Nat.{ℕ, ◌+◌, ◌-◌, ◌*◌, ◌^◌, ◌≤◌, ◌<◌}
use native.Mathlib.Nat.{pow-suc, pow-le-pow_right, lt_of_lt_of_le}
use native.Mathlib.Numerals.{add-one}
use native.Mathlib.Omega.{arith}
use mathlib.Core.Bool.{Bool, true, false, cond}
use mathlib.Core.List.{List, ◌∷◌}
use lib.ListN.{length, get_or, take, drop, length-drop}
use lib.Seq.{drop-cons}
use borrow.Author.Tests.{le-leb, lt-leb}
use Rattle.std.proofs.Common.{Option, None, Some}
use Rattle.std.proofs.lemmas.List.{drop_all, take_all}
use Rattle.std.specs.List.{slice_range}
use Rattle.std.proofs.lemmas.Bool.Decides.{nat_tests}
use Rattle.std.specs.Option.{SomeIff, unwrap_or}
use Rattle.std.specs.Char.{digit_value}
use Rattle.lines.specs.Read.{within, digit_of, are_digits, value_from, value_of, number_read, sixteen_from, is_hex_at, read_hex}

-- ---- one byte
module _ (least most b : ℕ) where
  pub is_within : least ≤ b → b ≤ most → within least most b ≡ true
  unfolding within
  is_within h t = rw (le-leb _ _ h, le-leb _ _ t) refl

  pub is_above : least ≤ b → most < b → within least most b ≡ false
  unfolding within
  is_above h t = rw (le-leb _ _ h, lt-leb _ _ t) refl

-- std's digits up to 15 are ours
pub same_digit : (b : ℕ) (r : Option ℕ) → SomeIff r (digit_value b < 16) (digit_value b) → r ≡ digit_of b
unfolding digit_of within
same_digit b None h = grind (arith, nat_tests)
same_digit b (Some d) h = grind (arith, nat_tests)

-- ---- the byte after i
module _ (bytes : List ℕ) (i : ℕ) (h : i < length bytes) where
  first_is : drop i bytes ≡ get_or bytes i 0 ∷ drop (i + 1) bytes
  first_is = rw add-one (drop-cons bytes i 0 h)

  pub bad_digit : digit_of (get_or bytes i 0) ≡ None → are_digits (drop i bytes) ≡ false
  unfolding are_digits
  bad_digit e = rw (first_is, e) refl

  pub good_digit : (d : ℕ) → digit_of (get_or bytes i 0) ≡ Some d → are_digits (drop i bytes) ≡ are_digits (drop (i + 1) bytes)
  unfolding are_digits
  good_digit d e = rw (first_is, e) refl

  pub next_value : (d v : ℕ) → digit_of (get_or bytes i 0) ≡ Some d → value_from v (drop i bytes) ≡ value_from (v * 16 + d) (drop (i + 1) bytes)
  unfolding value_from
  next_value d v e = ap (value_from v) first_is ∙ ap (λ (o : Option ℕ). value_from (v * 16 + unwrap_or o 16) (drop (i + 1) bytes)) e

-- ---- the value of i digits fits into them
pub one_larger : (v d i : ℕ) → v < 16 ^ i → d < 16 → v * 16 + d < 16 ^ (i + 1)
one_larger v d i h b = rw (add-one, pow-suc) (omega arith)

pub small : (v i : ℕ) → v < 16 ^ i → i < 16 → v < 2 ^ 60
small v i h b = let g : 16 ^ i ≤ 16 ^ 15 = pow-le-pow_right (omega arith) {i = i} {j = 15} (omega arith) in lt_of_lt_of_le h g

-- ---- all of them
pub no_number : (bytes : List ℕ) → are_digits bytes ≡ false → number_read bytes ≡ None
unfolding number_read
no_number bytes e = rw e

pub whole_number : (bytes : List ℕ) (i v : ℕ) → length bytes ≤ i
    → are_digits bytes ≡ are_digits (drop i bytes) → value_from v (drop i bytes) ≡ value_of bytes → number_read bytes ≡ Some v
unfolding number_read are_digits value_from
whole_number bytes i v h e w = let z = drop_all i bytes h in rw (e, ← w, z) refl

pub is_no_number : (bytes : List ℕ) → number_read bytes ≡ None → are_digits bytes ≡ false
unfolding number_read
is_no_number bytes = go (are_digits bytes)
  where
    go : (b : Bool) → cond b (Some (value_of bytes)) None ≡ None → b ≡ false
    go true e = cc
    go false e = refl

pub is_number : (bytes : List ℕ) (v : ℕ) → number_read bytes ≡ Some v → (are_digits bytes ≡ true) × (value_of bytes ≡ v)
unfolding number_read
is_number bytes v = go (are_digits bytes)
  where
    go : (b : Bool) → cond b (Some (value_of bytes)) None ≡ Some v → (b ≡ true) × (value_of bytes ≡ v)
    go true e = (refl, cc)
    go false e = absurd (cc)

-- ---- sixteen bytes of a text
pub sixteen_is : (text : List ℕ) (at : ℕ) → take (at + 16 - at) (drop at text) ≡ sixteen_from at text
unfolding sixteen_from
sixteen_is text at = let e : at + 16 - at ≡ 16 = omega arith in rw e refl

pub hex_there : (text : List ℕ) (at : ℕ) → at + 16 ≤ length text → read_hex text at ≡ number_read (sixteen_from at text)
unfolding read_hex is_hex_at number_read
hex_there text at h = rw (le-leb _ _ h) refl

pub no_hex : (text : List ℕ) (at : ℕ) → length text < at + 16 → read_hex text at ≡ None
unfolding read_hex is_hex_at
no_hex text at h = rw (lt-leb _ _ h) refl

pub sixteen_first : (text : List ℕ) (at : ℕ) → at + 16 ≤ length text → slice_range (slice_range text at (length text)) 0 16 ≡ sixteen_from at text
unfolding sixteen_from
sixteen_first text at h =
    let n : length (drop at text) ≤ length text - at = omega (arith, length-drop at text) in
    ap (take 16) (take_all (length text - at) (drop at text) n)
