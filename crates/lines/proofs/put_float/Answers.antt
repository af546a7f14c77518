-- `put_float` puts the hex of `to_bits`.
use mathlib.Core.Path.{◌∙◌}
use Rattle.lines.specs.Digits.{float_hex}
use Rattle.lines.proofs.put_float.Goals as goal

pub returns : goal.returns
unfolding float_hex
returns c =
    let told = c.put_hex.ensures in
    let bits = c.bits_of.ensures in
    record { value = told.value ∙ simp bits; out_after = told.out_after ∙ simp bits }
