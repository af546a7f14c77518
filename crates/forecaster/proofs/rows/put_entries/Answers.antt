-- `put_entries` prints the samples of a room, one after the other.
use mathlib.Core.Path.{refl, sym, ◌∙◌, ap}
use Prim.Native.Nat.{ℕ, ◌+◌, ◌≤◌}
use mathlib.Core.List.{List}
use native.Mathlib.Omega.{arith}
use lib.ListN.{length}
use Rattle.lines.specs.Put.{over}
use Rattle.forecaster.proofs.OneMore.{more_put, more_length, more_most, more_same, none_left, all_left}
use Rattle.forecaster.proofs.rows.put_entries.Goals as goal

pub loop-i-init : goal.loop-i-init
loop-i-init c =
    let args = c.args in
    let all = all_left args.count args.from args.room.now c.requires.2 in
    (omega arith, omega arith, refl, ap (λ (bytes : List ℕ). over 0 bytes args.out.now) all, omega (arith, ap (λ (bytes : List ℕ). length bytes) all))

pub loop-i-preserved : goal.loop-i-preserved
loop-i-preserved c =
    let put = c.put_line-at.ensures in
    let args = c.args in
    let pre = c.requires in
    let less = c.loop-i-test.true in
    let inv = c.loop-i.invariant in
    let fits : c.loop-i.at + 191 ≤ length c.loop-i.out = omega (arith, inv.1, inv.2, pre.1, pre.3, less) in (
      omega arith,
      omega (arith, put.value, more_most args.count args.from args.room.now pre.2 c.loop-i.i c.loop-i.at c.loop-i.out less fits, inv.1),
      ap (λ (l : List ℕ). length l) put.out_after ∙ more_same args.count args.from args.room.now pre.2 c.loop-i.i c.loop-i.at c.loop-i.out less fits ∙ inv.2,
      rw (put.value, put.out_after) (more_put args.count args.from args.room.now pre.2 c.loop-i.i c.loop-i.at c.loop-i.out less fits ∙ inv.3),
      rw put.value (more_length args.count args.from args.room.now pre.2 c.loop-i.i c.loop-i.at c.loop-i.out less fits ∙ inv.4),
    )

pub shape_of-out : goal.shape_of-out
shape_of-out c = c.loop-i.invariant.2

pub returns : goal.returns
returns c =
    let args = c.args in
    let pre = c.requires in
    let inv = c.loop-i.invariant in
    let left = none_left args.count args.from args.room.now pre.2 c.loop-i.i c.loop-i.at c.loop-i.out c.loop-i-test.false in
    record { value = (omega (arith, inv.4, left.1), omega (arith, inv.0, inv.1, pre.1)); out_after = sym left.0 ∙ inv.3 }

pub overflow_add-from : goal.overflow_add-from
overflow_add-from c = omega (arith, c.requires.0 (omega (arith, c.loop-i-test.true)))

pub overflow_mul-i : goal.overflow_mul-i
overflow_mul-i c = omega arith
