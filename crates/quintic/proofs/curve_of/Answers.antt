-- `curve_of` is `curve_of`, operation by operation.
use lib.Ieee.{of_bits, of_int, neg}
use Rattle.quintic.specs.Quintic.{curve_of}
use Rattle.quintic.proofs.curve_of.Goals as goal

pub returns : goal.returns
unfolding curve_of of_bits of_int neg
returns c =
    simp (c.plus-c5.ensures, c.times-8.ensures, c.minus-2.ensures, c.times-7.ensures, c.times-6.ensures, c.minus-c4.ensures, c.plus.ensures, c.times-5.ensures, c.times-4.ensures, c.plus-c3.ensures, c.times-3.ensures, c.minus.ensures, c.times-2.ensures, c.times.ensures, c.third_gap-d3.ensures, c.second_gap-d2.ensures, c.first_gap-d1.ensures)
