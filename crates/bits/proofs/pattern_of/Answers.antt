-- `pattern_of` is `pattern_of`.
use Rattle.std.proofs.Common.{rules}
use Rattle.bits.specs.Patterns.{pattern_of}
use Rattle.bits.proofs.pattern_of.Goals as goal

pub returns-then-is_nan : goal.returns-then-is_nan
unfolding pattern_of
returns-then-is_nan c = search rules

pub returns : goal.returns
unfolding pattern_of
returns c = search rules
