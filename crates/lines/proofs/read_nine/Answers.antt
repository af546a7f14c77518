-- `read_nine` is `read_nine`.
use Rattle.std.proofs.Common.{sym, arith}
use Rattle.lines.proofs.Nines.{not_nine, too_long_or_short}
use Rattle.lines.proofs.read_nine.Goals as goal

pub returns-then-text-lt152 : goal.returns-then-text-lt152
returns-then-text-lt152 c = let text = c.args.text.now in sym (not_nine text (too_long_or_short text (λ z. omega arith) (λ z. omega arith)))
