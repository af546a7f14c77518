-- 01, "Between samples": "The quintic is evaluated in the order of `quintic_hermite`." 02, W-203: "the second derivative of the quintic too: per
-- component a_a + (6·c3·s + 12·c4·s² + 20·c5·s³)/h², the order of rounding fixed in the definition".
-- With h the time from one sample to the next and s = (t - t_a)/h:
--   Δ1 = ((r_b - r_a) - v_a·h) - a_a·((h·h)·½)      c3 = (Δ1·10 - Δ2·4) + Δ3·½
--   Δ2 = (v_b - v_a)·h - a_a·(h·h)                  c4 = (Δ1·-15 + Δ2·7) - Δ3
--   Δ3 = (a_b - a_a)·(h·h)                          c5 = (Δ1·6 - Δ2·3) + Δ3·½
--   r = ((((r_a + v_a·(h·s)) + a_a·(((h·h)·½)·s²)) + c3·s³) + c4·s⁴) + c5·s⁵
--   v = (((v_a + a_a·(h·s)) + c3·((3·s²)/h)) + c4·((4·s³)/h)) + c5·((5·s⁴)/h)
--   a = a_a + ((c3·(6·s) + c4·(12·s²)) + c5·(20·s³))/(h·h)
-- where s² = s·s and each further power is the one before times s.
-- The acceleration is rounded in this order: each whole number times its power of s; the coefficient times that; the three products added from the
-- left; their sum divided, once, by h·h; and the quotient added to a_a.
use Rattle.std.specs.Prelude.{ℕ, false, pos, negsuc, Float}
use Rattle.std.specs.Float.{fin, binary64}
use Rattle.std.specs.Float.Ieee.{neg, sub, mul, div, of_int}
use Rattle.triple.specs.declared.Triple.{Triple}
use Rattle.triple.specs.declared.Sample.{Sample}
use Rattle.triple.specs.Arithmetic.{plus, minus, times, over}
use Rattle.quintic.specs.declared.Between.{Between}
use Rattle.quintic.specs.declared.Curve.{Curve}

abbrev half : Float
half = fin false 1 (negsuc 0)

-- the whole number n
abbrev whole : ℕ → Float
whole n = of_int binary64 (pos n)

infixl 7 ◌·◌
abbrev ◌·◌ : Float → Float → Float
x · y = mul binary64 x y

unfoldable pub delta1 : Float → Sample → Sample → Triple
delta1 h from to = minus (minus (minus to.r from.r) (times from.v h)) (times from.a (h · h · half))

unfoldable pub delta2 : Float → Sample → Sample → Triple
delta2 h from to = minus (times (minus to.v from.v) h) (times from.a (h · h))

unfoldable pub delta3 : Float → Sample → Sample → Triple
delta3 h from to = times (minus to.a from.a) (h · h)

unfoldable pub curve_of : Float → Sample → Sample → Curve
curve_of h from to =
    let d1 = delta1 h from to in
    let d2 = delta2 h from to in
    let d3 = delta3 h from to in
    record {
      c3 = plus (minus (times d1 (whole 10)) (times d2 (whole 4))) (times d3 half);
      c4 = minus (plus (times d1 (neg (whole 15))) (times d2 (whole 7))) d3;
      c5 = plus (minus (times d1 (whole 6)) (times d2 (whole 3))) (times d3 half);
    }

unfoldable pub position_on : Float → Float → Sample → Curve → Triple
position_on h s from c =
    let s2 = s · s in
    let s3 = s2 · s in
    let s4 = s3 · s in
    let s5 = s4 · s in
    plus (plus (plus (plus (plus from.r (times from.v (h · s))) (times from.a (h · h · half · s2))) (times c.c3 s3)) (times c.c4 s4)) (times c.c5 s5)

unfoldable pub velocity_on : Float → Float → Sample → Curve → Triple
velocity_on h s from c =
    let s2 = s · s in
    let s3 = s2 · s in
    let s4 = s3 · s in
    plus (plus (plus (plus from.v (times from.a (h · s)))
    (times c.c3 (div binary64 (whole 3 · s2) h)))
    (times c.c4 (div binary64 (whole 4 · s3) h)))
    (times c.c5 (div binary64 (whole 5 · s4) h))

unfoldable pub acceleration_on : Float → Float → Sample → Curve → Triple
acceleration_on h s from c =
    let s2 = s · s in
    let s3 = s2 · s in
    plus from.a
    (over (plus (plus (times c.c3 (whole 6 · s)) (times c.c4 (whole 12 · s2))) (times c.c5 (whole 20 · s3))) (h · h))

unfoldable pub quintic_hermite : Sample → Sample → Float → Between
quintic_hermite from to t =
    let h = sub binary64 to.t from.t in
    let s = div binary64 (sub binary64 t from.t) h in
    let c = curve_of h from to in
    record { r = position_on h s from c; v = velocity_on h s from c; a = acceleration_on h s from c }
