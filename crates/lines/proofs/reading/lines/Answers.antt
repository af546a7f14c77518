-- `lines` is `read_nine` of a text that is as long as nine lines.
use Rattle.std.proofs.Common.{◌≡◌, refl, sym, ◌∙◌, ap, ◌<◌, ◌*◌, None, Some, arith}
use Rattle.std.proofs.Math.ListN.{length-set}
use Rattle.lines.specs.Read.{number_read, sixteen_from}
use Rattle.lines.proofs.Values.{sixteen_is}
use Rattle.lines.proofs.Nines.{not_nine, is_nine_lem, no_digits, no_end, next_lines, next_number, first_lines, first_numbers, no_line_left, all_numbers}
use Rattle.lines.proofs.reading.lines.Goals as goal

pub loop-i-init : goal.loop-i-init
loop-i-init c = let text = c.args.text.now in record { room = refl; good = first_lines text; worth = first_numbers text }

pub returns-in_err-numbers : goal.returns-in_err-numbers
returns-in_err-numbers c =
    let text = c.args.text.now in
    let i = c.loop-i.i in
    let d : number_read (sixteen_from (17 * i) text) ≡ None = ap number_read (sym (sixteen_is text (17 * i))) ∙ sym c.sixteen.ensures ∙ c.in_err-numbers.was in
    c.from_residual.ensures ∙ sym (not_nine text (c.loop-i.invariant.good ∙ no_digits text c.requires.0 c.requires.1 i (omega arith) d))

pub returns-then-not-is_end : goal.returns-then-not-is_end
returns-then-not-is_end c =
    let text = c.args.text.now in
    let i = c.loop-i.i in
    sym (not_nine text (c.loop-i.invariant.good ∙ no_end text c.requires.0 c.requires.1 i (omega arith) (sym c.is_end.ensures ∙ c.if-not-is_end.true)))

pub loop-i-preserved : goal.loop-i-preserved
loop-i-preserved c =
    let text = c.args.text.now in
    let i = c.loop-i.i in
    let v = c.in_ok-numbers.field-0 in
    let h : i < 9 = omega arith in
    let d : number_read (sixteen_from (17 * i) text) ≡ Some v = ap number_read (sym (sixteen_is text (17 * i))) ∙ sym c.sixteen.ensures ∙ c.in_ok-numbers.was in
    record {
      room = simp length-set c.loop-i.invariant.room;
      good = c.loop-i.invariant.good ∙ next_lines text c.requires.0 c.requires.1 i h v d (sym c.is_end.ensures ∙ c.if-not-is_end.false);
      worth = next_number text c.requires.0 c.requires.1 i h v d c.loop-i.numbers ∙ c.loop-i.invariant.worth;
    }

pub returns : goal.returns
returns c =
    let text = c.args.text.now in
    let e : c.loop-i.i ≡ 9 = omega arith in
    ap Some (all_numbers text c.requires.0 c.requires.1 c.loop-i.i e c.loop-i.numbers ∙ c.loop-i.invariant.worth)
    ∙ sym (is_nine_lem text (c.loop-i.invariant.good ∙ no_line_left text c.requires.0 c.requires.1 c.loop-i.i e))
