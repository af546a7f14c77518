-- `put_word` is `put_word`: its four bytes at once.
use Rattle.std.proofs.Common.{◌≡◌, ◌+◌, ◌-◌, ◌*◌, arith, rules}
use Rattle.blocks.specs.Words.{put_word}
use Rattle.blocks.proofs.Words.{put_four}
use Rattle.blocks.proofs.writing.put_word.Goals as goal

pub returns : goal.returns
unfolding put_word
returns c =
    let i = c.args.i in
    let e : 4 * i + 4 - 4 * i ≡ 4 = omega arith in
    rw (e, c.copy_from_slice.ensures.after, c.to_le_bytes.ensures) (put_four (4 * i) c.args.out.now _ _ _ _ (search rules))
