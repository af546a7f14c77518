-- `phase_of` is `phase_of`.
use Rattle.flight.specs.Flight.{phase_of}
use Rattle.flight.proofs.phase_of.Goals as goal

pub returns-in-Ask : goal.returns-in-Ask
unfolding phase_of
returns-in-Ask c = rw c.in-Ask.is

pub returns-in-Done : goal.returns-in-Done
unfolding phase_of
returns-in-Done c = rw c.in-Done.is

pub returns-in-Refused : goal.returns-in-Refused
unfolding phase_of
returns-in-Refused c = rw c.in-Refused.is
