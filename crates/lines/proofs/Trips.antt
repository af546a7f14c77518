-- What is written means the number that it was written of.
use mathlib.Core.Path.{◌≡◌, refl, ◌∙◌, ap}
use Prim.Native.Nat.{ℕ, zero, suc, ◌+◌, ◌-◌, ◌*◌, ◌/◌, ◌%◌, ◌^◌, ◌≤◌, ◌<◌}
use native.Mathlib.Nat.{pow-suc}
use native.Mathlib.Omega.{arith}
use mathlib.Core.Bool.{Bool, true, false, ◌&&◌}
use mathlib.Core.List.{List, [], ◌∷◌, ◌++◌}
use lib.Dec.{ltb}
use borrow.Author.Tests.{ltb-true, ltb-false, lt-ltb}
use Rattle.std.proofs.Common.{Option, Some}
use Rattle.std.specs.Option.{is_some, unwrap_or}
use Rattle.lines.specs.Digits.{glyph, digits, hex_of, places, decimal_of}
use Rattle.lines.specs.Read.{digit_of, are_digits, value_from, value_of}
use Rattle.lines.specs.Trips.{HexIsRead, meant_from, DecimalMeans}
use Rattle.lines.proofs.Values.{is_within, is_above}

-- ---- hex
digit_again : (d : ℕ) → d < 16 → digit_of (glyph d) ≡ Some d
unfolding glyph digit_of
digit_again d h = by_kind (ltb d 10) refl
  where
    by_kind : (numeral : Bool) → ltb d 10 ≡ numeral → digit_of (glyph d) ≡ Some d
    by_kind true e =
        let s : d < 10 = ltb-true d 10 e in
        let v : 48 + d - 48 ≡ d = omega arith in
        rw (e, is_within 48 57 (48 + d) (omega arith) (omega arith)) (ap Some v)
    by_kind false e =
        let s : 10 ≤ d = ltb-false d 10 e in
        let v : 87 + d - 87 ≡ d = omega arith in
        rw (e, is_above 48 57 (87 + d) (omega arith) (omega arith), is_above 65 70 (87 + d) (omega arith) (omega arith), is_within 97 102 (87 + d) (omega arith) (omega arith)) (ap Some v)

value_last : (v : ℕ) (bytes : List ℕ) (b : ℕ) → value_from v (bytes ++ (b ∷ [])) ≡ value_from v bytes * 16 + unwrap_or (digit_of b) 16
unfolding value_from
value_last v [] b = refl
value_last v (x ∷ bytes) b = value_last (v * 16 + unwrap_or (digit_of x) 16) bytes b

digits_last : (bytes : List ℕ) (b d : ℕ) → digit_of b ≡ Some d → are_digits (bytes ++ (b ∷ [])) ≡ are_digits bytes
unfolding are_digits
digits_last [] b d h = rw h refl
digits_last (x ∷ bytes) b d h = ap (λ (t : Bool). is_some (digit_of x) && t) (digits_last bytes b d h)

all_digits : (k n : ℕ) → are_digits (digits 16 k n) ≡ true
unfolding digits are_digits
all_digits zero n = refl
all_digits (suc k) n =
    let h : n % 16 < 16 = omega arith in
    digits_last (digits 16 k (n / 16)) (glyph (n % 16)) (n % 16) (digit_again (n % 16) h) ∙ all_digits k (n / 16)

value_again : (k n : ℕ) → n < 16 ^ k → value_from 0 (digits 16 k n) ≡ n
unfolding digits value_from
value_again zero n h = omega arith
value_again (suc k) n h =
    let d : n % 16 < 16 = omega arith in
    let b : n < 16 ^ k * 16 = rw pow-suc at h in
    let r : n / 16 < 16 ^ k = omega arith in
    omega (arith, value_last 0 (digits 16 k (n / 16)) (glyph (n % 16)), value_again k (n / 16) r, ap (λ (o : Option ℕ). unwrap_or o 16) (digit_again (n % 16) d))

pub hex_is_read : HexIsRead
unfolding hex_of value_of
hex_is_read x h = record { digits = all_digits 16 x; value = value_again 16 x h }

-- ---- decimals
meant_last : (v : ℕ) (bytes : List ℕ) (b : ℕ) → meant_from v (bytes ++ (b ∷ [])) ≡ meant_from v bytes * 10 + (b - 48)
unfolding meant_from
meant_last v [] b = refl
meant_last v (x ∷ bytes) b = meant_last (v * 10 + (x - 48)) bytes b

numeral_again : (d : ℕ) → d < 10 → glyph d - 48 ≡ d
unfolding glyph
numeral_again d h = rw (lt-ltb _ _ h) (omega arith)

meant_again : (k n : ℕ) → n < 10 ^ k → meant_from 0 (digits 10 k n) ≡ n
unfolding digits meant_from
meant_again zero n h = omega arith
meant_again (suc k) n h =
    let d : n % 10 < 10 = omega arith in
    let b : n < 10 ^ k * 10 = rw pow-suc at h in
    let r : n / 10 < 10 ^ k = omega arith in
    omega (arith, meant_last 0 (digits 10 k (n / 10)) (glyph (n % 10)), meant_again k (n / 10) r, numeral_again (n % 10) d)

-- the digits that are counted are enough
enough : (k n : ℕ) → n < 10 ^ suc k → n < 10 ^ places k n
unfolding places
enough zero n h = h
enough (suc k) n h = by_size (ltb n 10) refl (enough k (n / 10))
  where
    by_size : (one : Bool) → ltb n 10 ≡ one → (n / 10 < 10 ^ suc k → n / 10 < 10 ^ places k (n / 10)) → n < 10 ^ places (suc k) n
    by_size true e rest = let s : n < 10 = ltb-true n 10 e in rw e s
    by_size false e rest =
        let b : n < 10 ^ suc k * 10 = rw pow-suc at h in
        let r : n / 10 < 10 ^ places k (n / 10) = rest (omega arith) in
        rw (e, pow-suc) (omega arith)

pub decimal_means : DecimalMeans
unfolding decimal_of
decimal_means n h = let b : n < 10 ^ 20 = omega arith in meant_again (places 19 n) n (enough 19 n b)
