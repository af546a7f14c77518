-- `write_content` puts the words of a block's content and adds them up.
use Rattle.std.proofs.Common.{◌≡◌, suc, ◌+◌, ◌*◌, length}
use Rattle.blocks.specs.Words.{put_words}
use Rattle.blocks.specs.Blocks.{block_word, check, form_word}
use Rattle.blocks.proofs.writing.write_content.Given as goal

abbrev pub invariant-loop-j : goal.invariant-loop-j
invariant-loop-j l = record {
  room : length l.out ≡ 2048;
  sum : l.sum ≡ check (block_word l.content l.b) (suc l.j);
  put : l.out ≡ put_words (form_word l.content) (128 * l.b + 1) l.j l.initial.out;
}
