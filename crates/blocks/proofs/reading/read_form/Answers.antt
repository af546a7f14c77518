-- `read_form` is `is_whole`, and takes the content block after block.
use Rattle.std.proofs.Common.{◌≡◌, ◌+◌, ◌*◌, ◌∙◌, refl, eq-eqb, add-one, arith}
use Rattle.blocks.specs.Rows.{filled}
use Rattle.blocks.specs.Blocks.{is_whole, content_at}
use Rattle.blocks.proofs.Filled.{filled_on}
use Rattle.blocks.proofs.reading.read_form.Goals as goal

pub loop-b-init : goal.loop-b-init
unfolding filled
loop-b-init c = record { whole = refl; content = refl }

pub loop-b-preserved : goal.loop-b-preserved
loop-b-preserved c =
    let b = c.loop-b.b in
    let e : 126 * (b + 1) ≡ 126 * b + 126 = omega arith in record {
      whole = rw add-one (rw (c.loop-b.invariant.whole, c.read_block-whole.ensures.value) refl);
      content = rw (e, c.read_block-whole.ensures.content_after, c.loop-b.invariant.content) (filled_on (content_at c.args.bytes.now) (126 * b) 126 c.args.content.now);
    }

pub returns : goal.returns
unfolding is_whole
returns c = let e : c.loop-b.b ≡ 4 = omega arith in record {
  value = rw (c.loop-b.invariant.whole, e, eq-eqb _ _ c.told-bytes) refl;
  content_after = c.loop-b.invariant.content ∙ rw e refl;
}
