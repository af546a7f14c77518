-- `is_unused_zero` is `unused_is_zero` over all words.
use mathlib.Core.Path.{◌≡◌, ◌∙◌, refl}
use native.Mathlib.Omega.{arith}
use native.Mathlib.Numerals.{add-one}
use Rattle.stored.proofs.Unused.{rest_long, rest_word, rest_zero, rest_zero_lem}
use Rattle.stored.proofs.judging.is_unused_zero.Goals as goal

pub loop-word-init : goal.loop-word-init
unfolding rest_zero
loop-word-init c = refl

pub loop-word-preserved : goal.loop-word-preserved
unfolding rest_zero
loop-word-preserved c =
    let n = c.loop-word.word-index in
    let l = rest_long c.args.c.now c.told-c in
    let w = rest_word c.args.c.now n (omega arith) in
    rw add-one (c.still_zero-zero.ensures ∙ rw (w, c.loop-word.invariant) refl)

pub returns : goal.returns
returns c =
    let l = rest_long c.args.c.now c.told-c in
    let e : c.loop-word.word-index ≡ 246 = omega arith in
    c.loop-word.invariant ∙ rw (e, c.are_floats_zero-zero.ensures, c.uses_of-u.ensures, c.waits_at.ensures) (rest_zero_lem _ _ 246)
