-- 01, "Numbered answers", and 02: the number of each refusal.
use Rattle.std.specs.Prelude.{ℕ, ⊤, Result, Ok, Err}
use Rattle.refusals.specs.declared.Refusal.{Refusal}
use Rattle.refusals.specs.declared.Refusal.TheVariants.{StepNotFinite, MaxStepsExceeded, NoDenseOutput, InterpOutOfBounds, Setting, SampleRoom, NoQuestion, NotThatQuestion, Shape, StoredShape, StoredContent, BlankDate, NotWhole, TooFewSteps, TooLow, InputLine}

abbrev pub number_of : Refusal → ℕ
number_of StepNotFinite = 1
number_of MaxStepsExceeded = 2
number_of NoDenseOutput = 3
number_of InterpOutOfBounds = 4
number_of Setting = 5
number_of SampleRoom = 6
number_of NoQuestion = 7
number_of NotThatQuestion = 8
number_of Shape = 9
-- 02, W-201: "10 for a wrong length, block number or check"
number_of StoredShape = 10
-- and "11 for another form number, an unknown waiting point, a flag above 1, unused content that is not zero, or a run that 01's answer 7 calls made up"
number_of StoredContent = 11
-- W-202: "12 for a start, end or step that is not finite"
number_of BlankDate = 12
-- W-206, of a whole-second start: "13 where one of these three is not whole or beyond the bounds", of start, end and step
number_of NotWhole = 13
-- and "14 for max_steps below K"
number_of TooFewSteps = 14
-- W-207: "15 ends the run when a question's distance is below 1 km or NaN"
number_of TooLow = 15
-- and "a missing, extra or misshapen input line prints 19"
number_of InputLine = 19

-- a refusal's number, and 0 where all is written
abbrev pub number_told : Result ⊤ Refusal → ℕ
number_told (Ok x) = 0
number_told (Err e) = number_of e
