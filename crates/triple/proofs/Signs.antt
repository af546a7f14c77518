-- A size is never negative, and neither is the larger of two such numbers.
use lib.Ieee.{Float, binary64, add, lt}
use lib.Ieee.Fits.{div-fits}
use Rattle.double.specs.Doubles.{Double}
use Rattle.double.proofs.Signs.{Plain, plain_cond, plain_square, plain_add, plain_div}
use Rattle.root.proofs.Nearest.{double_root}
use Rattle.root.proofs.Squares.{plain_root}
use Rattle.triple.specs.declared.Triple.{Triple}
use Rattle.triple.specs.Size.{larger_of, three, square, mean_square, size_of}

pub plain_larger : (x y : Float) → Plain x → Plain y → Plain (larger_of x y)
unfolding larger_of
plain_larger x y h k = plain_cond (lt x y) y x k h

pub plain_mean : (a : Triple) → Plain (mean_square a)
unfolding mean_square square
plain_mean a =
    let sum = add binary64 (square a.x) (square a.y) in
    plain_div (add binary64 sum (square a.z)) three
    (plain_add sum (square a.z) (plain_add (square a.x) (square a.y) (plain_square a.x) (plain_square a.y)) (plain_square a.z)) tt

pub plain_size : (a : Triple) → Plain (size_of a)
unfolding size_of
plain_size a = plain_root (mean_square a) (plain_mean a)

-- ---- both are f64, whatever the components
pub double_mean : (a : Triple) → Double (mean_square a)
unfolding mean_square
double_mean a = div-fits binary64 (add binary64 (add binary64 (square a.x) (square a.y)) (square a.z)) three

pub double_size : (a : Triple) → Double (size_of a)
unfolding size_of
double_size a = double_root (mean_square a) (double_mean a)
