-- `root::narrow_root` meets its contract. How good the guess is plays no part.
use Prim.Native.Nat.{◌+◌, ◌*◌, ◌/◌, ◌^◌, ◌≤◌, ◌<◌}
use native.Mathlib.Omega.{arith}
use Rattle.root.proofs.Steps.{poly, guess, next, Guessed, guessed, square, sq_pos, step_down}
use Rattle.root.proofs.narrow_root.Goals as goal

known : (c : goal.Start) → Guessed c.args.m (guess c.args.m) (next c.args.m)
known c = guessed c.args.m c.requires.0 c.requires.1

pub overflow_mul-g : goal.overflow_mul-g
overflow_mul-g c = omega arith

pub overflow_sub-g : goal.overflow_sub-g
overflow_sub-g c = omega arith

pub overflow_mul-g-2 : goal.overflow_mul-g-2
overflow_mul-g-2 c = omega (arith, poly (c.args.m / 274877906944) (omega arith))

pub overflow_add-g : goal.overflow_add-g
overflow_add-g c = omega (arith, poly (c.args.m / 274877906944) (omega arith))

pub overflow_mul-g-3 : goal.overflow_mul-g-3
overflow_mul-g-3 c = omega (arith, poly (c.args.m / 274877906944) (omega arith))

pub nonzero_div-k : goal.nonzero_div-k
nonzero_div-k c = omega (arith, (known c).g_low)

pub overflow_add-k : goal.overflow_add-k
overflow_add-k c = omega (arith, (known c).g_high, (known c).g_div)

pub nonzero_div-r : goal.nonzero_div-r
nonzero_div-r c = omega (arith, (known c).k_low)

pub overflow_add-r : goal.overflow_add-r
overflow_add-r c = omega (arith, (known c).k_high, (known c).k_div)

reach : (c : goal.Start) → let r = (next c.args.m + c.args.m / next c.args.m) / 2 in (c.args.m < (r + 1) * (r + 1)) × (r ≤ 2 ^ 29)
reach c = ((known c).reaches, omega (arith, (known c).k_high, (known c).k_div))

pub overflow_mul-r : goal.overflow_mul-r
overflow_mul-r c = omega (arith, square _ (reach c).1)

pub overflow_sub-r : goal.overflow_sub-r
overflow_sub-r c = sq_pos _ _ c.if-m-r.true

pub stepped_down-requires : goal.stepped_down-requires
stepped_down-requires c = (step_down _ _ c.if-m-r.true, omega (arith, (reach c.before).1))

pub returns-then-m-r : goal.returns-then-m-r
returns-then-m-r c = c.stepped_down.ensures

pub returns : goal.returns
returns c = record { low = c.if-m-r.false; high = (reach c.before).0 }
