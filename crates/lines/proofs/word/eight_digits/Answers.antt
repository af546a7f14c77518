-- `eight_digits` is the word of eight digits; no field runs over into the next.
use native.Mathlib.Omega.{arith}
use Prim.Native.Nat.{◌+◌, ◌/◌}
use lib.Bits.{and_le_r}
use Rattle.lines.proofs.Eight.{halves, bytes, half_bytes, eight_digits}
use Rattle.lines.proofs.word.eight_digits.Goals as goal

pub overflow_mul-bytes : goal.overflow_mul-bytes
overflow_mul-bytes c = let w = halves c.args.x in omega (arith, and_le_r w 0x0000_00ff_0000_00ff)

pub overflow_add-bytes : goal.overflow_add-bytes
overflow_add-bytes c = let w = halves c.args.x in omega (arith, and_le_r w 0x0000_00ff_0000_00ff, and_le_r (w / 256) 0x0000_00ff_0000_00ff)

pub overflow_mul-half_bytes : goal.overflow_mul-half_bytes
overflow_mul-half_bytes c = let w = bytes (halves c.args.x) in omega (arith, and_le_r w 0x000f_000f_000f_000f)

pub overflow_add-half_bytes : goal.overflow_add-half_bytes
overflow_add-half_bytes c = let w = bytes (halves c.args.x) in omega (arith, and_le_r w 0x000f_000f_000f_000f, and_le_r (w / 16) 0x000f_000f_000f_000f)

pub overflow_add-letters : goal.overflow_add-letters
overflow_add-letters c = let w = bytes (halves c.args.x) in omega (arith, and_le_r w 0x000f_000f_000f_000f, and_le_r (w / 16) 0x000f_000f_000f_000f)

pub overflow_add-result : goal.overflow_add-result
overflow_add-result c = let w = bytes (halves c.args.x) in omega (arith, and_le_r w 0x000f_000f_000f_000f, and_le_r (w / 16) 0x000f_000f_000f_000f)

pub overflow_mul-result : goal.overflow_mul-result
overflow_mul-result c = let w = half_bytes (bytes (halves c.args.x)) in omega (arith, and_le_r ((w + 0x0606_0606_0606_0606) / 16) 0x0101_0101_0101_0101)

pub overflow_add-result-2 : goal.overflow_add-result-2
overflow_add-result-2 c =
    let w = bytes (halves c.args.x) in
    omega (arith, and_le_r w 0x000f_000f_000f_000f, and_le_r (w / 16) 0x000f_000f_000f_000f, and_le_r ((half_bytes w + 0x0606_0606_0606_0606) / 16) 0x0101_0101_0101_0101)

pub returns : goal.returns
returns c = eight_digits c.args.x c.requires
