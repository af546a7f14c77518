-- `put_hex` puts `hex_of`.
use mathlib.Core.Path.{sym, ◌∙◌}
use Prim.Native.Nat.{◌+◌}
use native.Mathlib.Omega.{arith}
use lib.ListN.{length}
use borrow.Author.Tests.{leb-true}
use Rattle.lines.specs.Digits.{hex_of}
use Rattle.lines.proofs.Over.{length_hex, put_all, put_none, after_all, after_none}
use Rattle.lines.proofs.put_hex.Goals as goal

pub returns-then-not-has_room : goal.returns-then-not-has_room
returns-then-not-has_room c =
    let args = c.args in
    let e = length_hex args.x in
    let h = sym c.has_room.ensures ∙ c.if-not-has_room.true in
    record { value = sym (after_none (hex_of args.x) 16 args.at args.out.now e h); out_after = sym (put_none (hex_of args.x) 16 args.at args.out.now e h) }

pub hex-requires : goal.hex-requires
hex-requires c = leb-true _ _ (sym c.has_room.ensures ∙ c.if-not-has_room.false)

pub overflow_add-result : goal.overflow_add-result
overflow_add-result c =
    let args = c.args in
    omega (arith, leb-true (args.at + 16) (length args.out.now) (sym c.has_room.ensures ∙ c.if-not-has_room.false))

pub returns : goal.returns
returns c =
    let args = c.args in
    let e = length_hex args.x in
    let h = sym c.has_room.ensures ∙ c.if-not-has_room.false in record { value = sym (after_all (hex_of args.x) 16 args.at args.out.now e h); out_after = c.hex.ensures ∙ sym (put_all (hex_of args.x) 16 args.at args.out.now e h) }
