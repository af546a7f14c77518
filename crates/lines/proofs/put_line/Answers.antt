-- `put_line` is `put_line`, and answers `after_line`.
use mathlib.Core.Path.{sym, ◌∙◌}
use borrow.Author.Tests.{leb-true}
use Rattle.lines.specs.Lines.{line_fits, put_line, after_line}
use Rattle.lines.proofs.put_line.Goals as goal

pub returns-then-not-has_room : goal.returns-then-not-has_room
unfolding line_fits put_line after_line
returns-then-not-has_room c = let h = sym c.has_room.ensures ∙ c.if-not-has_room.true in record { value = simp h; out_after = simp h }

pub returns-then-not-has_room-2 : goal.returns-then-not-has_room-2
unfolding line_fits put_line after_line
returns-then-not-has_room-2 c =
    let h = sym c.has_room.ensures ∙ c.if-not-has_room.false in
    let r = sym c.has_room-2.ensures ∙ c.if-not-has_room-2.true in
    record { value = simp (h, r); out_after = simp (h, r) }

pub sample-requires : goal.sample-requires
sample-requires c =
    (leb-true _ _ (sym c.has_room.ensures ∙ c.if-not-has_room.false), leb-true _ _ (sym c.has_room-2.ensures ∙ c.if-not-has_room-2.false))

pub returns : goal.returns
unfolding line_fits put_line after_line
returns c =
    let told = c.sample.ensures in
    let h = sym c.has_room.ensures ∙ c.if-not-has_room.false in
    let r = sym c.has_room-2.ensures ∙ c.if-not-has_room-2.false in
    record { value = simp (h, r) told.value; out_after = simp (h, r) told.out_after }
