-- `read_content` takes the words of a block's content and adds them up.
use Rattle.std.proofs.Common.{◌≡◌, ℕ, suc, ◌+◌, ◌*◌}
use Rattle.blocks.specs.Rows.{filled_from}
use Rattle.blocks.specs.Blocks.{word_at, check, content_at}
use Rattle.blocks.proofs.reading.read_content.Given as goal

abbrev pub invariant-loop-j : goal.invariant-loop-j
invariant-loop-j l = record {
  sum : l.sum ≡ check (λ (j : ℕ). word_at l.bytes (128 * l.b + j)) (suc l.j);
  content : l.content ≡ filled_from (content_at l.bytes) (126 * l.b) l.j l.initial.content;
}
