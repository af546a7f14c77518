-- `word_at` is `word_at`.
use Rattle.std.proofs.Common.{arith}
use Rattle.blocks.specs.Blocks.{word_at}
use Rattle.blocks.proofs.reading.word_at.Goals as goal

pub returns : goal.returns
unfolding word_at
returns c = omega (arith, c.from_le_bytes.ensures)
