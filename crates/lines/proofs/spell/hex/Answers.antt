-- `hex` puts twice eight digits.
use mathlib.Core.Path.{◌∙◌, ap}
use Prim.Native.Nat.{◌+◌, ◌/◌, ◌%◌}
use Rattle.lines.specs.Put.{over}
use Rattle.lines.specs.Words.{bytes_of}
use Rattle.lines.proofs.Eight.{digits_again, twice_over}
use Rattle.lines.proofs.spell.hex.Goals as goal

pub returns : goal.returns
returns c =
    let args = c.args in
    let upper = ap (bytes_of 8) c.eight_digits-first.ensures ∙ digits_again 8 (args.x / 4294967296) in
    let lower = ap (bytes_of 8) c.eight_digits-last.ensures ∙ digits_again 8 (args.x % 4294967296) in
    c.put_bytes-2.ensures
    ∙ ap (over (args.at + 8) (bytes_of 8 c.eight_digits-last.result)) c.put_bytes.ensures
    ∙ twice_over args.x args.at (bytes_of 8 c.eight_digits-first.result) (bytes_of 8 c.eight_digits-last.result) args.out.now upper lower
