-- The size at its edges: NaN, infinite and zero; and that signs do not count.
use mathlib.Core.Path.{◌≡◌, refl, ap, ◌∙◌, subst}
use Prim.Native.Nat.{◌+◌, ◌*◌}
use mathlib.Core.Bool.{Bool, true, false, ◌||◌, false≢true, true≢false}
use lib.Ieee.{Float, nan, inf, fin, binary64, up, down, round, sum, add, mul, div, eq, is_nan}
use lib.Ieee.Fits.{mul-fits}
use Rattle.double.specs.Doubles.{Double, nought}
use Rattle.double.proofs.Booleans.{both}
use Rattle.double.proofs.Own.{zero_own}
use Rattle.double.proofs.Zeros.{zero_by}
use Rattle.double.proofs.Nans.{nan_plus, add_nan}
use Rattle.double.proofs.Signs.{Clear, round_clear, Plain, plain_square}
use Rattle.root.specs.Root.{root_of}
use Rattle.triple.specs.declared.Triple.{Triple}
use Rattle.triple.specs.Size.{absolute, three, square, mean_square, size_of}
use Rattle.triple.specs.Sizes.{is_infinite, NanSize, InfiniteSize, ZeroSize, SignsDoNotCount}

-- ((X + Y) + Z)/3, and its root
abbrev sized : Float → Float → Float → Float
sized X Y Z = root_of (div binary64 (add binary64 (add binary64 X Y) Z) three)

size_is : (a : Triple) → size_of a ≡ sized (square a.x) (square a.y) (square a.z)
unfolding size_of mean_square
size_is a = refl

-- ---- NaN
square_nan : (x : Float) → is_nan x ≡ true → square x ≡ nan
unfolding square mul is_nan
square_nan nan h = refl
square_nan (inf s) h = absurd (false≢true h)
square_nan (fin s m e) h = absurd (false≢true h)

lost : (X : Float) → X ≡ nan → root_of (div binary64 X three) ≡ nan
unfolding root_of div
lost X h = ap (λ (z : Float). root_of (div binary64 z three)) h

pub nan_size : NanSize
nan_size a = λ h. size_is a ∙ lost _ (go (is_nan a.x) (is_nan a.y) (is_nan a.z) (square_nan a.x) (square_nan a.y) (square_nan a.z) h)
  where
    go : {X Y Z : Float} (p q r : Bool) → (p ≡ true → X ≡ nan) → (q ≡ true → Y ≡ nan) → (r ≡ true → Z ≡ nan) → p || q || r ≡ true → add binary64 (add binary64 X Y) Z ≡ nan
    go {X} {Y} {Z} true q r f g k h = ap (λ (w : Float). add binary64 (add binary64 w Y) Z) (f refl) ∙ ap (λ (w : Float). add binary64 w Z) (nan_plus Y) ∙ nan_plus Z
    go {X} {Y} {Z} false true r f g k h = ap (λ (w : Float). add binary64 (add binary64 X w) Z) (g refl) ∙ ap (λ (w : Float). add binary64 w Z) (add_nan X) ∙ nan_plus Z
    go {X} {Y} {Z} false false r f g k h = ap (λ (w : Float). add binary64 (add binary64 X Y) w) (k h) ∙ add_nan (add binary64 X Y)

-- ---- infinite
square_clear : (x : Float) → is_nan x ≡ false → Clear (square x)
unfolding square mul is_nan
square_clear nan h = absurd (true≢false h)
square_clear (inf true) h = tt
square_clear (inf false) h = tt
square_clear (fin true m e) h = round_clear binary64 (m * up e * (m * up e)) (down e * down e)
square_clear (fin false m e) h = round_clear binary64 (m * up e * (m * up e)) (down e * down e)

sum_clear : (x y : Float) → Clear x → Clear y → Clear (add binary64 x y)
unfolding add sum
sum_clear nan y h k = absurd h
sum_clear (inf true) y h k = absurd h
sum_clear (inf false) nan h k = absurd k
sum_clear (inf false) (inf true) h k = absurd k
sum_clear (inf false) (inf false) h k = tt
sum_clear (inf false) (fin t n d) h k = tt
sum_clear (fin true m e) y h k = absurd h
sum_clear (fin false m e) nan h k = absurd k
sum_clear (fin false m e) (inf t) h k = k
sum_clear (fin false m e) (fin true n d) h k = absurd k
sum_clear (fin false m e) (fin false n d) h k = round_clear binary64 (m * up e * down d + n * up d * down e) (down e * down d)

inf_plus : (y : Float) → Clear y → add binary64 (inf false) y ≡ inf false
unfolding add
inf_plus nan h = absurd h
inf_plus (inf true) h = absurd h
inf_plus (inf false) h = refl
inf_plus (fin t n d) h = refl

plus_inf : (x : Float) → Clear x → add binary64 x (inf false) ≡ inf false
unfolding add
plus_inf nan h = absurd h
plus_inf (inf true) h = absurd h
plus_inf (inf false) h = refl
plus_inf (fin s m e) h = refl

is_inf : (x : Float) → Clear x → is_infinite x ≡ true → x ≡ inf false
is_inf nan h k = absurd h
is_inf (inf true) h k = absurd h
is_inf (inf false) h k = refl
is_inf (fin s m e) h k = absurd (false≢true k)

endless : (X : Float) → X ≡ inf false → root_of (div binary64 X three) ≡ inf false
unfolding root_of div
endless X h = ap (λ (z : Float). root_of (div binary64 z three)) h

-- which components are no NaN
none : (p q r : Bool) → p || q || r ≡ false → (p ≡ false) × (q ≡ false) × (r ≡ false)
none true q r h = absurd (true≢false h)
none false true r h = absurd (true≢false h)
none false false r h = (refl, refl, h)

pub infinite_size : InfiniteSize
infinite_size a h k =
    let n = none (is_nan a.x) (is_nan a.y) (is_nan a.z) h in
    size_is a ∙ endless _ (go (square a.x) (square a.y) (square a.z) (square_clear a.x n.0) (square_clear a.y n.1) (square_clear a.z n.2)
    (is_infinite (square a.x)) (is_infinite (square a.y)) (is_infinite (square a.z)) refl refl refl k)
  where
    go : (X Y Z : Float) → Clear X → Clear Y → Clear Z → (p q r : Bool) → is_infinite X ≡ p → is_infinite Y ≡ q → is_infinite Z ≡ r → p || q || r ≡ true → add binary64 (add binary64 X Y) Z ≡ inf false
    go X Y Z cx cy cz true q r f g k h = ap (λ (w : Float). add binary64 (add binary64 w Y) Z) (is_inf X cx f) ∙ ap (λ (w : Float). add binary64 w Z) (inf_plus Y cy) ∙ inf_plus Z cz
    go X Y Z cx cy cz false true r f g k h = ap (λ (w : Float). add binary64 (add binary64 X w) Z) (is_inf Y cy g) ∙ ap (λ (w : Float). add binary64 w Z) (plus_inf X cx) ∙ inf_plus Z cz
    go X Y Z cx cy cz false false r f g k h = ap (λ (w : Float). add binary64 (add binary64 X Y) w) (is_inf Z cz (k ∙ h)) ∙ plus_inf (add binary64 X Y) (sum_clear X Y cx cy)

-- ---- zero
square_zero : (x : Float) → eq (square x) nought ≡ true → square x ≡ nought
unfolding square
square_zero x h = let (t, (e, p)) = zero_by (mul binary64 x x) h in p ∙ by t e (subst (λ (y : Float). Plain y) p (plain_square x)) (subst (λ (y : Float). Double y) p (mul-fits binary64 x x))
  where
    by : (t : Bool) (e : _) → Plain (fin t 0 e) → Double (fin t 0 e) → fin t 0 e ≡ nought
    by true e h f = absurd h
    by false e h f = ap (fin false 0) (zero_own false e f)

no_size : sized nought nought nought ≡ nought
unfolding root_of div add round
no_size = refl

pub zero_size : ZeroSize
zero_size a h =
    let (xy, z) = both _ _ h in
    let (x, y) = both _ _ xy in
    size_is a
    ∙ ap (λ (w : Float). sized w (square a.y) (square a.z)) (square_zero a.x x)
    ∙ ap (λ (w : Float). sized nought w (square a.z)) (square_zero a.y y)
    ∙ ap (λ (w : Float). sized nought nought w) (square_zero a.z z)
    ∙ no_size

-- ---- signs
square_absolute : (x : Float) → square (absolute x) ≡ square x
unfolding square absolute mul
square_absolute nan = refl
square_absolute (inf true) = refl
square_absolute (inf false) = refl
square_absolute (fin true m e) = refl
square_absolute (fin false m e) = refl

pub signs_do_not_count : SignsDoNotCount
unfolding size_of mean_square
signs_do_not_count a =
    ap (λ (w : Float). sized w (square (absolute a.y)) (square (absolute a.z))) (square_absolute a.x)
    ∙ ap (λ (w : Float). sized (square a.x) w (square (absolute a.z))) (square_absolute a.y)
    ∙ ap (λ (w : Float). sized (square a.x) (square a.y) w) (square_absolute a.z)
