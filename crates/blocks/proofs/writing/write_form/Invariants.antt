-- `write_form` leaves `form`: block after block.
use Rattle.std.proofs.Common.{◌≡◌, ◌*◌, length}
use Rattle.blocks.specs.Words.{put_words}
use Rattle.blocks.specs.Blocks.{form_word}
use Rattle.blocks.proofs.writing.write_form.Given as goal

abbrev pub invariant-loop-b : goal.invariant-loop-b
invariant-loop-b l = record {
  room : length l.out ≡ 2048;
  put : l.out ≡ put_words (form_word l.content) 0 (128 * l.b) l.initial.out;
}
