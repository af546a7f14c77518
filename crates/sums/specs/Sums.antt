-- The two running sums s and S (big_s), and what comes of them: 01, "Startup", 2 and 3, and "Steps and tail".
use Rattle.std.specs.Prelude.{ℕ, List, Float}
use Rattle.std.specs.Float.{binary64}
use Rattle.std.specs.Float.Ieee.{mul}
use Rattle.triple.specs.declared.Triple.{Triple}
use Rattle.triple.specs.declared.State.{State}
use Rattle.triple.specs.Arithmetic.{plus, minus, times, over}
use Rattle.tables.specs.Tables.{a_at, b_at}
use Rattle.sums.specs.declared.Sums.{Sums}
use Rattle.sums.specs.declared.Fixed.{Fixed}
use Rattle.sums.specs.Weighted.{sum_a, sum_b, fixed_a, fixed_b}

-- h·h
abbrev pub squared : Float → Float
squared h = mul binary64 h h

-- "s[4] = v[4]/h - ΣB4, S[4] = r[4]/(h·h) - ΣA4"
unfoldable pub epoch_sums : Float → State → List Triple → Sums
epoch_sums h x a = record { s = minus (over x.v h) (sum_b 4 a); big_s = minus (over x.r (squared h)) (sum_a 4 a) }

-- one point on, whose acceleration is b: "S[i] = S[i-1] + s[i-1], s[i] = s[i-1] + a[i]"
unfoldable pub on_sums : Sums → Triple → Sums
on_sums x b = record { s = plus x.s b; big_s = plus x.big_s x.s }

-- one point back, from the point whose acceleration is b: "s[i] = s[i+1] - a[i+1], S[i] = (S[i+1] - s[i+1]) + a[i+1]"
unfoldable pub back_sums : Sums → Triple → Sums
back_sums x b = record { s = minus x.s b; big_s = plus (minus x.big_s x.s) b }

-- point i in the startup, by its own sums: "v[i] = (s[i] + ΣBi)·h, r[i] = (S[i] + ΣAi)·(h·h)"
unfoldable pub point_of : ℕ → Float → Sums → List Triple → State
point_of i h x a = record { r = times (plus x.big_s (sum_a i a)) (squared h); v = times (plus x.s (sum_b i a)) h }

-- "predict with row 9: S' = S + s; r = (S' + ΣA9)·(h·h); v = (s + ΣB9)·h"
unfoldable pub predicted_state : Float → Sums → List Triple → State
predicted_state h x a =
    record { r = times (plus (plus x.big_s x.s) (sum_a 9 a)) (squared h); v = times (plus x.s (sum_b 9 a)) h }

-- FA and FB, which stay the same through the passes of a step
unfoldable pub fixed_of : List Triple → Fixed
fixed_of a = record { fa = fixed_a a; fb = fixed_b a }

-- "each pass: r = ((S' + FA) + a_new·A88)·(h·h), v = (((s + a_new) + FB) + a_new·B88)·h"
unfoldable pub corrected_state : Float → Sums → Fixed → Triple → State
corrected_state h x f b =
    record {
      r = times (plus (plus (plus x.big_s x.s) f.fa) (times b (a_at 8 8))) (squared h);
      v = times (plus (plus (plus x.s b) f.fb) (times b (b_at 8 8))) h;
    }
