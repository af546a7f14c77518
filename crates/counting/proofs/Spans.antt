-- A plan of whole numbers: the tests that the steps turn on are tests of whole numbers, and every time is exact.
use mathlib.Core.Path.{◌≡◌, sym, ap, ◌∙◌, subst}
use Prim.Native.Nat.{ℕ, zero, suc, ◌+◌, ◌-◌, ◌*◌, ◌^◌, ◌≤◌, ◌<◌}
use native.Mathlib.Nat.{zero-add, add-zero, mul-le-mul}
use native.Mathlib.Omega.{arith}
use mathlib.Core.Bool.{Bool, true, false, not, ◌||◌, cond}
use lib.Dec.{T, ltb, ltb→lt, nltb→le}
use lib.IntN.{pos}
use lib.Ieee.{Float, binary64, add, sub, div, lt, of_int}
use Rattle.triple.specs.Size.{absolute}
use Rattle.triple.specs.Finite.{is_finite}
use Rattle.startup.specs.Points.{offset, time_at}
use Rattle.plan.specs.declared.Plan.{Plan}
use Rattle.plan.specs.Plan.{direction_of, is_too_near}
use Rattle.triple.proofs.Finite.{has_value}
use Rattle.conditions.specs.Conditions.{left_at, is_due, is_tail}
use Rattle.rules.specs.Asked.{clock}
use Rattle.whole.proofs.Exact.{Is, move, sub_whole, lt_whole, nought_whole}
use Rattle.whole.proofs.Integers.{whole_of_int}
use Rattle.whole.proofs.Along.{Along, move_along, add_along, sub_along, mul_along, times_along, short_along, far_along, apart_along}
use Rattle.counting.specs.Clockwork.{grid_time}

pub whole_finite : {x : Float} {p q : ℕ} → Is x p q → is_finite x ≡ true
whole_finite {x} X = has_value x X.sign X.size 1 X.value

-- from t0 = P - Q to tf = P + S - Q in steps of H, all counted in the direction d
pub record Span (d : Bool) (p : Plan) (P Q S H : ℕ) : Type 0 where
  pub start : Along d p.t0 P Q
  pub goal : Along d p.tf (P + S) Q
  pub pace : Along d p.h H 0
  pub way : Along d (direction_of p.t0 p.tf) 1 0
  pub low : Q ≤ P + 2 ^ 50
  pub high : P + S ≤ Q + 2 ^ 50
  pub moves : 0 < H
  pub slow : H ≤ 1_000_000_000
  pub far : 8 * H ≤ S

module _ {d : Bool} {p : Plan} {P Q S H : ℕ} (s : Span d p P Q S H) where
  -- what is left at x on the way
  left_on : {t : Float} (x : ℕ) → x ≤ S → Along d t (P + x) Q → Along d (sub binary64 p.tf t) S x
  left_on x l X = let a = s.low in let b = s.high in move_along S x (sub_along s.goal X (omega arith) (omega arith)) (omega arith)

  -- ---- the tests
  pub goes_on : {t : Float} (x : ℕ) → x ≤ S → Along d t (P + x) Q → is_due p t ≡ ltb x S
  unfolding is_due
  goes_on x l X =
      let a = s.low in
      let b = s.high in
      lt_whole nought_whole (mul_along (left_on x l X) s.way (omega arith) (omega arith)) ∙ ap (λ (z : ℕ). ltb z (S + 0)) (zero-add x) ∙ ap (λ (z : ℕ). ltb x z) (add-zero S)

  pub is_short_lem : {t : Float} (x : ℕ) → x ≤ S → Along d t (P + x) Q → is_tail p t ≡ ltb (S - x) H
  unfolding is_tail left_at
  is_short_lem x l X = let a = s.low in let b = s.high in short_along (left_on x l X) s.pace l (omega arith) s.moves s.slow

  pub far_enough : is_too_near p ≡ false
  unfolding is_too_near
  far_enough =
      ap (λ (b : Bool). b || lt (absolute (div binary64 (sub binary64 p.tf p.t0) p.h)) (of_int binary64 (pos 8))) (apart_along s.pace s.moves)
      ∙ far_along (left_on 0 (omega arith) (move_along (P + 0) Q s.start (omega arith))) s.pace s.moves (let g = s.far in omega arith)

  -- ---- the times
  pub step_on_lem : {t : Float} (x : ℕ) → x + H ≤ S → Along d t (P + x) Q → Along d (add binary64 t p.h) (P + (x + H)) Q
  step_on_lem x l X = let a = s.low in let b = s.high in move_along (P + (x + H)) Q (add_along X s.pace (omega arith) (omega arith)) (omega arith)

  offset_is : (n : ℕ) → n ≤ 4 → Is (offset (n + 4)) n 0
  unfolding offset
  offset_is n l = move n 0 (sub_whole (whole_of_int (pos (n + 4)) (omega arith, omega arith)) (whole_of_int (pos 4) (omega arith, omega arith)) (omega arith) (omega arith)) (omega arith)

  pub point_on_lem : (n : ℕ) → n ≤ 4 → Along d (time_at p.t0 p.h (n + 4)) (P + n * H) Q
  unfolding time_at
  point_on_lem n l =
      let a = s.low in
      let b = s.high in
      let c = s.far in
      let m : n * H ≤ 4 * H = mul-le-mul l (omega arith) in
      move_along (P + n * H) Q (add_along s.start (times_along 4 1_000_000_000 (offset_is n l) s.pace l s.slow (omega arith)) (omega arith) (omega arith)) (omega arith)

  pub clock_on : (j : ℕ) → (4 + j) * H ≤ S → Along d (clock p j) (P + (4 + j) * H) Q
  unfolding clock
  clock_on zero l = point_on_lem 4 (omega arith)
  clock_on (suc j) l = move_along (P + (4 + suc j) * H) Q (step_on_lem ((4 + j) * H) (omega arith) (clock_on j (omega arith))) (omega arith)

  pub grid_on : (n : ℕ) → n * H ≤ S → Along d (grid_time p n) (P + n * H) Q
  unfolding grid_time
  grid_on n l = go (ltb n 4) (ltb→lt n 4) (nltb→le n 4)
    where
      go : (b : Bool) → (T b → n < 4) → (T (not b) → 4 ≤ n) → Along d (cond b (time_at p.t0 p.h (n + 4)) (clock p (n - 4))) (P + n * H) Q
      go true f g = let h = f tt in point_on_lem n (omega arith)
      go false f g =
          let h = g tt in
          let e : 4 + (n - 4) ≡ n = omega arith in
          let m : (4 + (n - 4)) * H ≡ n * H = ap (λ (i : ℕ). i * H) e in
          move_along (P + n * H) Q (clock_on (n - 4) (subst (λ (x : ℕ). x ≤ S) (sym m) l)) (omega arith)
