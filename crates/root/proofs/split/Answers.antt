-- `root::split` meets its contract.
use Prim.Native.Nat.{◌*◌, ◌/◌, ◌%◌, ◌^◌}
use native.Mathlib.Omega.{arith}
use lib.Count.{leading_le}
use Rattle.root.specs.Parts.{units_of}
use Rattle.root.proofs.Evening.{Scaled, brought, scaled_low, scaled_high, doubled, evened, moved}
use Rattle.root.proofs.split.Goals as goal
use Rattle.root.proofs.split.Goals.{Joined-f-eq0, then-f-eq0, else-f-eq0}

pub overflow_sub-z : goal.overflow_sub-z
overflow_sub-z c = omega (arith, (brought (c.args.b % 2 ^ 52) (omega arith) (omega arith)).lead)

pub overflow_shl-m : goal.overflow_shl-m
overflow_shl-m c = omega (arith, leading_le 64 (c.args.b % 2 ^ 52))

pub overflow_sub-e : goal.overflow_sub-e
overflow_sub-e c = omega (arith, leading_le 64 (c.args.b % 2 ^ 52))

module _ (c : Joined-f-eq0) where
  scaled : Scaled (units_of c.args.b * 2 ^ 1074) c.if-f-eq0.m c.if-f-eq0.e
  scaled =
      let b = c.args.b in
      elim c.if-f-eq0.branch [
        | then-f-eq0 w ↦ moved (scaled_low (b / 2 ^ 52) (b % 2 ^ 52) w.if-f-eq0.true (omega (arith, w.if-f-eq0.true)) (omega arith)) (rw w.from-z.ensures at w.m-is) (rw w.from-z.ensures at w.e-is)
        | else-f-eq0 w ↦ moved (scaled_high (b / 2 ^ 52) (b % 2 ^ 52) (omega (arith, w.if-f-eq0.false)) (omega arith) (omega arith)) w.m-is w.e-is
      ]

pub overflow_mul-result : goal.overflow_mul-result
overflow_mul-result c = let j = c.before.before in let s = scaled j in omega (arith, s.high, doubled j.if-f-eq0.m j.if-f-eq0.e)

pub returns : goal.returns
returns c = let j = c.before.before in evened j.args.b j.if-f-eq0.m j.if-f-eq0.e (scaled j)
