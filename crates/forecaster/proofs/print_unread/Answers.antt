-- `print_unread` prints what `unread_piece` says.
use mathlib.Core.Path.{refl, ◌∙◌}
use native.Mathlib.Omega.{arith}
use mathlib.Core.List.{[]}
use Rattle.lines.specs.Put.{over}
use Rattle.forecaster.specs.Pieces.{unread_piece}
use Rattle.forecaster.proofs.OneMore.{refusal_more}
use Rattle.forecaster.proofs.print_unread.Goals as goal

pub returns : goal.returns
unfolding unread_piece over
returns c =
    let told = c.put_refusal-count.ensures in
    let number = c.from-number.ensures ∙ c.from.ensures in
    let out = c.args.out.now in
    let more = refusal_more _ [] out out _ 0 _ refl (omega arith) refl c.requires told.value told.out_after in
    rw (← number) (refl, more.0, more.1)
