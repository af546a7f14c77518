-- `put_decimal` puts `decimal_of`.
use mathlib.Core.Path.{sym, ◌∙◌, ap}
use Prim.Native.Nat.{ℕ, ◌+◌}
use native.Mathlib.Omega.{arith}
use borrow.Author.Tests.{leb-true}
use lib.ListN.{length}
use Rattle.lines.specs.Put.{over}
use Rattle.lines.specs.Digits.{digits, decimal_of}
use Rattle.lines.proofs.Over.{length_decimal, put_all, put_none, after_all, after_none}
use Rattle.lines.proofs.put_decimal.Goals as goal

pub returns-then-not-has_room : goal.returns-then-not-has_room
returns-then-not-has_room c =
    let k = c.places-k in
    let args = c.args in
    let e = length_decimal args.n ∙ sym k.ensures.0 in
    let h = sym c.has_room.ensures ∙ c.if-not-has_room.true in
    record { value = sym (after_none (decimal_of args.n) k.result args.at args.out.now e h); out_after = sym (put_none (decimal_of args.n) k.result args.at args.out.now e h) }

pub decimal-requires : goal.decimal-requires
decimal-requires c = leb-true _ _ (sym c.has_room.ensures ∙ c.if-not-has_room.false)

pub overflow_add-result : goal.overflow_add-result
overflow_add-result c =
    let args = c.args in
    omega (arith, leb-true (args.at + c.places-k.result) (length args.out.now) (sym c.has_room.ensures ∙ c.if-not-has_room.false))

pub returns : goal.returns
unfolding decimal_of
returns c =
    let k = c.places-k in
    let args = c.args in
    let e = length_decimal args.n ∙ sym k.ensures.0 in
    let h = sym c.has_room.ensures ∙ c.if-not-has_room.false in
    let d = ap (λ (j : ℕ). over args.at (digits 10 j args.n) args.out.now) k.ensures.0 in record { value = sym (after_all (decimal_of args.n) k.result args.at args.out.now e h); out_after = c.decimal.ensures ∙ d ∙ sym (put_all (decimal_of args.n) k.result args.at args.out.now e h) }
