-- `sixteen` is `number_read`, digit after digit.
use Rattle.std.proofs.Common.{◌≡◌, refl, sym, ◌∙◌, None, Some, ◌<◌, length, arith}
use Rattle.std.proofs.Math.ListN.{get_or}
use Rattle.lines.specs.Read.{digit_of, value_of}
use Rattle.lines.proofs.Values.{same_digit, bad_digit, good_digit, next_value, one_larger, small, no_number, whole_number}
use Rattle.lines.proofs.reading.sixteen.Goals as goal

pub loop-b-init : goal.loop-b-init
unfolding value_of
loop-b-init c = record { fits = omega arith; good = refl; worth = refl }

pub returns-in_err-d : goal.returns-in_err-d
returns-in_err-d c =
    let bytes = c.args.digits.now in
    let i = c.loop-b.b-index in
    let e : digit_of (get_or bytes i 0) ≡ None = cc (same_digit c.from.result c.to_digit.result c.to_digit.ensures.value, c.in_err-d.was) in
    c.from_residual.ensures ∙ sym (no_number bytes (c.loop-b.invariant.good ∙ bad_digit bytes i (omega arith) e))

pub overflow_mul-value : goal.overflow_mul-value
overflow_mul-value c = omega (arith, small c.loop-b.value c.loop-b.b-index c.loop-b.invariant.fits (omega arith))

pub overflow_add-value : goal.overflow_add-value
overflow_add-value c = omega (arith, small c.loop-b.value c.loop-b.b-index c.loop-b.invariant.fits (omega arith), c.in_ok-d.ensures.value)

pub loop-b-preserved : goal.loop-b-preserved
loop-b-preserved c =
    let bytes = c.args.digits.now in
    let i = c.loop-b.b-index in
    let d = c.from-in-loop-b.result in
    let v = c.loop-b.value in
    let h : i < length bytes = omega arith in
    let b : d < 16 = omega (arith, c.in_ok-d.ensures.value) in
    let e : digit_of (get_or bytes i 0) ≡ Some d = cc (same_digit c.from.result c.to_digit.result c.to_digit.ensures.value, c.in_ok-d.was) in
    record {
      fits = one_larger v d i c.loop-b.invariant.fits b;
      good = c.loop-b.invariant.good ∙ good_digit bytes i h d e;
      worth = sym (next_value bytes i h d v e) ∙ c.loop-b.invariant.worth;
    }

pub returns : goal.returns
returns c = sym (whole_number c.args.digits.now c.loop-b.b-index c.loop-b.value (omega arith) c.loop-b.invariant.good c.loop-b.invariant.worth)
