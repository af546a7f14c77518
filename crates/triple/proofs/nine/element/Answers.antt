-- `element` is `at`: past the nine stands what the library has for NaN, 0.0 / 0.0.
use lib.Ieee.{of_bits, div}
use Rattle.std.proofs.Common.{rules, ◌∙◌}
use Rattle.triple.proofs.nine.element.Goals as goal

pub returns : goal.returns
unfolding of_bits div
returns c = c.unwrap_or.ensures ∙ rw (c.copied.ensures, c.thrice.ensures) (c.get.ensures.lookup.4 (search rules) _)
