-- `root::wide_root` meets its contract: `Divided` has what it computes.
use Prim.Native.Nat.{ℕ, ◌-◌, ◌*◌, ◌/◌}
use native.Mathlib.Omega.{arith}
use Rattle.root.proofs.Steps.{Divided, divided, floor_stays, floor_less}
use Rattle.root.proofs.wide_root.Goals as goal

module _ (c : goal.After-narrow_root-a) where
  abbrev n : ℕ
  n = (c.args.m - c.narrow_root-a.result * c.narrow_root-a.result) * 134217728

  abbrev q : ℕ
  q = n / (2 * c.narrow_root-a.result)

  abbrev u : ℕ
  u = n - q * (2 * c.narrow_root-a.result)

  known : Divided c.args.m c.narrow_root-a.result q u
  known = divided c.args.m c.narrow_root-a.result c.requires.0 c.requires.1 c.narrow_root-a.ensures

pub overflow_mul-n-2 : goal.overflow_mul-n-2
overflow_mul-n-2 c = omega (arith, known c)

pub overflow_mul-d : goal.overflow_mul-d
overflow_mul-d c = omega (arith, known c)

pub nonzero_div-q : goal.nonzero_div-q
nonzero_div-q c = omega (arith, known c)

pub overflow_mul-s : goal.overflow_mul-s
overflow_mul-s c = omega (arith, known c)

pub overflow_add-s : goal.overflow_add-s
overflow_add-s c = omega (arith, known c)

pub overflow_mul-q : goal.overflow_mul-q
overflow_mul-q c = omega (arith, known c)

pub overflow_sub-n-2 : goal.overflow_sub-n-2
overflow_sub-n-2 c = omega (arith, known c)

pub overflow_mul-n-3 : goal.overflow_mul-n-3
overflow_mul-n-3 c = omega (arith, known c)

pub overflow_mul-q-2 : goal.overflow_mul-q-2
overflow_mul-q-2 c = omega (arith, known c)

pub overflow_sub-result : goal.overflow_sub-result
overflow_sub-result c = omega (arith, known c.before)

pub returns-then-n-q : goal.returns-then-n-q
returns-then-n-q c = floor_less c.args.m c.narrow_root-a.result (q c.before) (u c.before) (known c.before) c.if-n-q.true

pub returns-else-n-q : goal.returns-else-n-q
returns-else-n-q c = floor_stays c.args.m c.narrow_root-a.result (q c.before) (u c.before) (known c.before) c.if-n-q.false
