-- `read_form` is `is_whole`, and takes the content block after block.
use Rattle.std.proofs.Common.{◌≡◌, ◌*◌}
use Rattle.blocks.specs.Rows.{filled}
use Rattle.blocks.specs.Blocks.{content_at}
use Rattle.blocks.proofs.Taken.{whole_so_far}
use Rattle.blocks.proofs.reading.read_form.Given as goal

abbrev pub invariant-loop-b : goal.invariant-loop-b
invariant-loop-b l = record {
  whole : l.whole ≡ whole_so_far l.bytes l.b;
  content : l.content ≡ filled (content_at l.bytes) (126 * l.b) l.initial.content;
}
