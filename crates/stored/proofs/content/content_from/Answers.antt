-- `content_from` by its parts.
use mathlib.Core.Path.{◌≡◌, refl}
use Prim.Native.Nat.{ℕ, ◌+◌, ◌-◌, ◌<◌}
use mathlib.Core.List.{List}
use lib.ListN.{length, get_or, replicate, length-replicate, get_or-replicate}
use Rattle.std.proofs.Common.{arith, rules}
use Rattle.stored.proofs.Parts.{put_filled, all_parts}
use Rattle.stored.proofs.content.content_from.Goals as goal

pub returns : goal.returns
returns c =
    let zeros : List ℕ = replicate 504 0 in
    let long : length zeros ≡ 504 = length-replicate {A = ℕ} 504 0 in
    let head = put_filled 0 0 6 zeros c.args.head (search rules) (omega (arith, long)) (λ (j : ℕ). get_or c.args.head j 0) (λ (j : ℕ). let e : 0 + j ≡ j = omega arith in rw e refl) in
    let counts =
    put_filled 0 252 6 c.put_floats.new.content c.args.counts (search rules) (omega (arith, c.put_floats.array_long)) (λ (j : ℕ). get_or c.args.counts (j - 252) 0)
    (λ (j : ℕ). let e : 252 + j - 252 ≡ j = omega arith in rw e refl) in
    rw (c.copy_from_slice-2.ensures.after, counts, c.put_floats.ensures, c.copy_from_slice.ensures.after, head)
    (all_parts c.args.head c.args.u c.args.floats c.args.counts zeros long (λ (i : ℕ) (h : i < 504). get_or-replicate {A = ℕ} 504 i 0 0 h))
