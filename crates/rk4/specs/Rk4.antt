-- 01: "RK4: half steps use h·0.5; the sixth is the double nearest 1/6; r + (((k1 + k2·2) + k3·2) + k4)·(h·sixth), likewise v with l.
-- Question times t, t+h·0.5 twice, t+h." The inner values, which 01 leaves to the module: k1 = v, k2 = v + l1·(h·0.5), k3 = v + l2·(h·0.5),
-- k4 = v + l3·h are the velocities asked; the positions asked are r, r + k1·(h·0.5), r + k2·(h·0.5), r + k3·h.
use Rattle.std.specs.Prelude.{false, pos, negsuc, Float}
use Rattle.std.specs.Float.{fin, binary64}
use Rattle.std.specs.Float.Ieee.{add, mul, div}
use Rattle.triple.specs.declared.Triple.{Triple}
use Rattle.triple.specs.declared.Point.{Point}
use Rattle.triple.specs.declared.State.{State}
use Rattle.triple.specs.Arithmetic.{plus, times}

-- h·0.5
abbrev pub half : Float → Float
half h = mul binary64 h (fin false 1 (negsuc 0))

abbrev pub two : Float
two = fin false 1 (pos 1)

-- 1 / 6, rounded to the nearest double
unfoldable pub sixth : Float
sixth = div binary64 (fin false 1 (pos 0)) (fin false 3 (pos 1))

-- k2, by l1, and k3, by l2
unfoldable pub half_on : Point → Float → Triple → Triple
half_on p h l = plus p.v (times l (half h))

-- k4, by l3
unfoldable pub step_on : Point → Float → Triple → Triple
step_on p h l = plus p.v (times l h)

-- (((a + b·2) + c·2) + d)·(h·sixth)
unfoldable pub averaged : Float → Triple → Triple → Triple → Triple → Triple
averaged h a b c d = times (plus (plus (plus a (times b two)) (times c two)) d) (mul binary64 h sixth)

-- ---- the questions after the first, which is p itself
unfoldable pub second_question : Point → Float → Triple → Point
second_question p h l1 = record { t = add binary64 p.t (half h); r = plus p.r (times p.v (half h)); v = half_on p h l1 }

unfoldable pub third_question : Point → Float → Triple → Triple → Point
third_question p h l1 l2 = record { t = add binary64 p.t (half h); r = plus p.r (times (half_on p h l1) (half h)); v = half_on p h l2 }

unfoldable pub fourth_question : Point → Float → Triple → Triple → Point
fourth_question p h l2 l3 = record { t = add binary64 p.t h; r = plus p.r (times (half_on p h l2) h); v = step_on p h l3 }

-- ---- the end
unfoldable pub end_of_step : Point → Float → Triple → Triple → Triple → Triple → State
end_of_step p h l1 l2 l3 l4 =
    record {
      r = plus p.r (averaged h p.v (half_on p h l1) (half_on p h l2) (step_on p h l3));
      v = plus p.v (averaged h l1 l2 l3 l4);
    }
