-- `put_refusal` puts `refusal_line`.
use mathlib.Core.Path.{sym, ◌∙◌}
use Prim.Native.Nat.{◌+◌}
use borrow.Author.Tests.{leb-true}
use Rattle.lines.specs.Lines.{refusal_line}
use Rattle.lines.proofs.Over.{put_all, put_none, after_all, after_none}
use Rattle.lines.proofs.Parts.{length_refusal}
use Rattle.lines.proofs.put_refusal.Goals as goal

pub returns-then-not-has_room : goal.returns-then-not-has_room
returns-then-not-has_room c =
    let k = c.places-k in
    let args = c.args in
    let line = refusal_line args.n in
    let e = length_refusal args.n k.result k.ensures.0 in
    let h = sym c.has_room.ensures ∙ c.if-not-has_room.true in
    record { value = sym (after_none line (k.result + 1) args.at args.out.now e h); out_after = sym (put_none line (k.result + 1) args.at args.out.now e h) }

pub refusal-requires : goal.refusal-requires
refusal-requires c =
    (c.places-k.ensures.0, leb-true _ _ (sym c.has_room.ensures ∙ c.if-not-has_room.false))

pub returns : goal.returns
returns c =
    let told = c.refusal.ensures in
    let k = c.places-k in
    let args = c.args in
    let line = refusal_line args.n in
    let e = length_refusal args.n k.result k.ensures.0 in
    let h = sym c.has_room.ensures ∙ c.if-not-has_room.false in record { value = told.value ∙ sym (after_all line (k.result + 1) args.at args.out.now e h); out_after = told.out_after ∙ sym (put_all line (k.result + 1) args.at args.out.now e h) }
