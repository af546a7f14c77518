-- `read_block` is `block_is_whole`, and takes the content.
use Rattle.blocks.specs.Blocks.{block_is_whole}
use Rattle.blocks.proofs.reading.read_block.Goals as goal

pub returns : goal.returns
unfolding block_is_whole
returns c = record { value = simp (c.word_at-check.ensures, c.word_at-number.ensures, c.read_content-sum.ensures.value); content_after = c.read_content-sum.ensures.content_after }
