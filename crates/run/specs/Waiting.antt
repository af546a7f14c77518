-- The waiting point: plain numbers in the run, a case everywhere else. (01: "each place that asks becomes a named waiting point of the run".)
use Rattle.std.specs.Prelude.{ℕ, zero, suc, ◌+◌, ◌%◌, ◌^◌, Bool, true, false, cond, leb, eqb, Result, Ok, Err}
use Rattle.run.specs.Limits.{numbering}
use Rattle.run.specs.declared.Mark.{Mark}
use Rattle.run.specs.declared.Count.{Count}
use Rattle.run.specs.declared.waiting.Stage.{Stage}
use Rattle.run.specs.declared.waiting.Stage.TheVariants.{First, Second, Third, Fourth}
use Rattle.run.specs.declared.waiting.UnknownStage.{UnknownStage}
use Rattle.run.specs.declared.waiting.Waiting.{Waiting}
use Rattle.run.specs.declared.waiting.Waiting.TheVariants.{Epoch, Forward, Backward, Survey, Pass, Step, Tail, TailSample, Ended, Unknown}

-- "Numbers start at 0 and rise by one for each accepted answer; after 65,535 the next question is numbered 0."
unfoldable pub next_count : Count → Count
next_count c = record { number = (c.number + 1) % numbering; evals = c.evals + 1 }

-- the same in numbers of 64 bits, which no run within the settings' limits fills
abbrev pub wrapped_next : Count → Count
wrapped_next c = record { number = (c.number + 1) % numbering; evals = (c.evals + 1) % 2 ^ 64 }

abbrev pub stage_number : Stage → ℕ
stage_number First = 0
stage_number Second = 1
stage_number Third = 2
stage_number Fourth = 3

-- an RK4 step asks four times
abbrev pub is_last : Stage → Bool
is_last First = false
is_last Second = false
is_last Third = false
is_last Fourth = true

abbrev pub stage_after : Stage → Stage
stage_after First = Second
stage_after Second = Third
stage_after Third = Fourth
stage_after Fourth = Fourth

abbrev pub at_number : Waiting → ℕ
at_number Ended = 0
at_number Epoch = 1
at_number (Forward i s) = 2
at_number (Backward i s) = 3
at_number (Survey i) = 4
at_number (Pass i) = 5
at_number (Step c) = 6
at_number (Tail s) = 7
at_number TailSample = 8
at_number Unknown = 9

abbrev pub index_number : Waiting → ℕ
index_number Ended = 0
index_number Epoch = 0
index_number (Forward i s) = i
index_number (Backward i s) = i
index_number (Survey i) = i
index_number (Pass i) = i
index_number (Step c) = c
index_number (Tail s) = 0
index_number TailSample = 0
index_number Unknown = 0

abbrev pub stage_at : Waiting → ℕ
stage_at Ended = 0
stage_at Epoch = 0
stage_at (Forward i s) = stage_number s
stage_at (Backward i s) = stage_number s
stage_at (Survey i) = 0
stage_at (Pass i) = 0
stage_at (Step c) = 0
stage_at (Tail s) = stage_number s
stage_at TailSample = 0
stage_at Unknown = 0

abbrev pub mark_at : Waiting → Count → Mark
mark_at w c = record { at = at_number w; index = index_number w; stage = stage_at w; count = c }

-- ---- and back
unfoldable pub stage_from : ℕ → Stage
stage_from zero = First
stage_from (suc zero) = Second
stage_from (suc (suc zero)) = Third
stage_from (suc (suc (suc n))) = Fourth

-- as the code reads it: a number above 3 is no stage's
unfoldable pub stage_read : ℕ → Result Stage UnknownStage
stage_read n = cond (leb n 3) (Ok (stage_from n)) (Err (record { 0 = n }))

-- by the number `at`
unfoldable pub waiting_at : ℕ → ℕ → Stage → Waiting
waiting_at zero i s = Ended
waiting_at (suc zero) i s = Epoch
waiting_at (suc (suc zero)) i s = Forward i s
waiting_at (suc (suc (suc zero))) i s = Backward i s
waiting_at (suc (suc (suc (suc zero)))) i s = Survey i
waiting_at (suc (suc (suc (suc (suc zero))))) i s = Pass i
waiting_at (suc (suc (suc (suc (suc (suc zero)))))) i s = Step i
waiting_at (suc (suc (suc (suc (suc (suc (suc zero))))))) i s = Tail s
waiting_at (suc (suc (suc (suc (suc (suc (suc (suc zero)))))))) i s = TailSample
waiting_at (suc (suc (suc (suc (suc (suc (suc (suc (suc n))))))))) i s = Unknown

unfoldable pub waits_at : Mark → Waiting
waits_at m = cond (leb m.stage 3) (waiting_at m.at m.index (stage_from m.stage)) Unknown

-- the points other than the epoch are asked in order: after point 3 comes point 5
unfoldable pub next_point : ℕ → ℕ
next_point i = cond (eqb i 3) 5 (i + 1)
