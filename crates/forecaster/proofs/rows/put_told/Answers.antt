-- `put_told` prints the samples, and behind them the ending.
use mathlib.Core.Path.{◌≡◌, refl, ◌∙◌}
use Rattle.refusals.specs.declared.Refusal.{Refusal}
use Rattle.refusals.specs.declared.Refusal.TheVariants.{StepNotFinite, MaxStepsExceeded, NoDenseOutput, InterpOutOfBounds, Setting, SampleRoom, NoQuestion, NotThatQuestion, Shape, StoredShape, StoredContent, BlankDate, NotWhole, TooFewSteps, TooLow, InputLine}
use Rattle.refusals.specs.Numbers.{number_of}
use Rattle.lines.specs.Lines.{refusal_line}
use Rattle.forecaster.specs.Printed.{ending_line}
use Rattle.forecaster.proofs.OneMore.{nothing_more_lem, refusal_more}
use Rattle.forecaster.proofs.rows.put_told.Goals as goal

-- no refusal has the number 0
a_line : (e : Refusal) → ending_line (number_of e) ≡ refusal_line (number_of e)
unfolding ending_line
a_line StepNotFinite = refl
a_line MaxStepsExceeded = refl
a_line NoDenseOutput = refl
a_line InterpOutOfBounds = refl
a_line Setting = refl
a_line SampleRoom = refl
a_line NoQuestion = refl
a_line NotThatQuestion = refl
a_line Shape = refl
a_line StoredShape = refl
a_line StoredContent = refl
a_line BlankDate = refl
a_line NotWhole = refl
a_line TooFewSteps = refl
a_line TooLow = refl
a_line InputLine = refl

pub returns-in-Asks : goal.returns-in-Asks
unfolding ending_line
returns-in-Asks c =
    let put = c.put_entries-at.ensures in
    let x = nothing_more_lem _ _ _ _ put.value.0 put.out_after in
    rw c.in-Asks.is (record { value = x.0; out_after = x.1 })

pub returns-in-Over-Ok : goal.returns-in-Over-Ok
unfolding ending_line
returns-in-Over-Ok c =
    let put = c.put_entries-at.ensures in
    let x = nothing_more_lem _ _ _ _ put.value.0 put.out_after in
    let y = rw c.in-Over-Ok.is at c.in-Over-Ok.field-0-is in
    rw (c.in-Over-Ok.is, y) (record { value = x.0; out_after = x.1 })

pub returns-in-Over-Err : goal.returns-in-Over-Err
returns-in-Over-Err c =
    let put = c.put_entries-at.ensures in
    let told = c.put_refusal.ensures in
    let x = refusal_more _ _ _ _ _ _ _ put.value.0 put.value.1 put.out_after c.requires.3 told.value told.out_after in
    let y = rw c.in-Over-Err.is at c.in-Over-Err.field-0-is in
    let number = c.from-number.ensures ∙ c.from.ensures in
    rw (c.in-Over-Err.is, y, a_line c.in-Over-Err.refusal, ← number) (record { value = x.0; out_after = x.1 })
