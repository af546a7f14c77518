-- `write_block` puts the words of a block.
use Rattle.std.proofs.Common.{ℕ, ◌+◌, ◌*◌, List, ap, ◌∙◌, ap₂}
use Rattle.blocks.specs.Words.{put_word, put_words}
use Rattle.blocks.specs.Blocks.{form_word}
use Rattle.blocks.proofs.Words.{block_put}
use Rattle.blocks.proofs.writing.write_block.Goals as goal

pub returns : goal.returns
returns c =
    let args = c.args in
    let words = put_words (form_word args.content.now) (128 * args.b + 1) 126 in
    c.put_word-2.ensures
    ∙ ap₂ (λ (l : List ℕ) (sum : ℕ). put_word l (128 * args.b + 127) sum) (c.write_content-sum.ensures.out_after ∙ ap words c.put_word.ensures) c.write_content-sum.ensures.value
    ∙ block_put args.content.now args.b args.out.now
