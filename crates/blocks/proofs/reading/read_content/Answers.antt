-- `read_content` takes the words of a block's content and adds them up.
use Rattle.std.proofs.Common.{◌≡◌, ◌+◌, ◌*◌, refl, add-one, arith}
use Rattle.blocks.specs.Rows.{filled_from}
use Rattle.blocks.specs.Blocks.{check}
use Rattle.blocks.proofs.Taken.{check_more, filled_more}
use Rattle.blocks.proofs.reading.read_content.Goals as goal

pub loop-j-init : goal.loop-j-init
unfolding check filled_from
loop-j-init c = let e : 128 * c.args.b ≡ 128 * c.args.b + 0 = omega arith in record { sum = cc; content = refl }

pub loop-j-preserved : goal.loop-j-preserved
loop-j-preserved c =
    let a = c.args in
    let j = c.loop-j.j in record {
      sum = rw add-one (let h = check_more a.bytes.now a.b j in cc);
      content = rw add-one (let h = filled_more a.bytes.now a.b j a.content.now (omega arith) in cc);
    }

pub returns : goal.returns
returns c = let e : c.loop-j.j ≡ 126 = omega arith in record { value = cc; content_after = cc }
