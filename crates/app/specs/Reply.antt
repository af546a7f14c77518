-- The outcome in plain numbers, for C: 01's number and values of each case. What a case has no use for is zero. m is how many samples the call
-- stored (W-207).
use Rattle.std.specs.Prelude.{ℕ, Result, Ok, Err}
use Rattle.triple.specs.Arithmetic.{nought, zeros}
use Rattle.refusals.specs.declared.Refusal.{Refusal}
use Rattle.refusals.specs.Numbers.{number_of}
use Rattle.gauss_jackson.specs.declared.Question.{Question}
use Rattle.gauss_jackson.specs.declared.Solution.{Solution}
use Rattle.gauss_jackson.specs.declared.Answered.{Answered}
use Rattle.gauss_jackson.specs.declared.Outcome.{Outcome}
use Rattle.gauss_jackson.specs.declared.Outcome.TheVariants.{Ask, Done, Refused}
use Rattle.run.specs.declared.Run.{Run}
use Rattle.profile.specs.declared.Cost.{Cost}
use Rattle.profile.specs.declared.WholeTold.{WholeTold}
use Rattle.profile.specs.Costs.{no_cost}
use Rattle.fastpath.specs.declared.Tried.{Tried}
use Rattle.fastpath.specs.declared.Stepped.{Stepped}
use Rattle.fastpath.specs.Moving.{with_trial, with_step}
use Rattle.app.specs.declared.Reply.{Reply}
use Rattle.app.specs.declared.CostReply.{CostReply}
use Rattle.app.specs.declared.WholeReply.{WholeReply}

-- the number of the interface
abbrev pub abi_number : ℕ
abi_number = 3

-- kind 0: the next question
unfoldable pub asks_for : Question → ℕ → Reply
asks_for q m = record { t = q.t; r = q.r; v = q.v; evals = 0; steps = 0; startup_iters = 0; stored = m; kind = 0; refusal = 0; number = q.number }

-- kind 1: the finished state
unfoldable pub finished_at : Solution → ℕ → Reply
finished_at s m =
    record { t = s.t; r = s.r; v = s.v; evals = s.evals; steps = s.steps; startup_iters = s.startup_iters; stored = m; kind = 1; refusal = 0; number = 0 }

-- kind 2: a refusal, by its number in 01's table
unfoldable pub refused_by : Refusal → ℕ → Reply
refused_by e m = record { t = nought; r = zeros; v = zeros; evals = 0; steps = 0; startup_iters = 0; stored = m; kind = 2; refusal = number_of e; number = 0 }

unfoldable pub reply_of : Outcome → ℕ → Reply
reply_of (Ask q) m = asks_for q m
reply_of (Done s) m = finished_at s m
reply_of (Refused e) m = refused_by e m

abbrev pub answer_reply : Answered → Reply
answer_reply d = reply_of d.outcome d.stored

-- ---- the whole-second profile: no refusal is 0, and with a refusal no cost is told
unfoldable pub cost_reply_of : Result Cost Refusal → CostReply
cost_reply_of (Ok c) = record { cost = c; refusal = 0 }
cost_reply_of (Err e) = record { cost = no_cost; refusal = number_of e }

unfoldable pub whole_reply_of : WholeTold → WholeReply
whole_reply_of d = record { reply = reply_of d.outcome 0; cost = d.cost }

-- ---- where an answer goes the fast path: the reply of a step that is made, and the run with what changed
abbrev pub stepped_reply : Stepped → Reply
stepped_reply d = asks_for d.question d.stored

abbrev pub tried_run : Run → Tried → Run
tried_run run d = with_trial run d.mark d.trial

abbrev pub stepped_run : Run → Stepped → Run
stepped_run run d = with_step run d.mark d.a d.track d.trial
