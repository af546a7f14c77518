-- The parts of a flight that an answer of the fast path changes, and the flight with them in their places. No promise to a caller cites this file.
use Rattle.std.specs.Prelude.{◌+◌}
use Rattle.fastpath.specs.declared.Tried.{Tried}
use Rattle.fastpath.specs.declared.Stepped.{Stepped}
use Rattle.fastpath.specs.Moving.{with_step}
use Rattle.gauss_jackson.specs.declared.Question.{Question}
use Rattle.flight.specs.declared.Phase.TheVariants.{Asks}
use Rattle.flight.specs.declared.Flight.{Flight}
use Rattle.flight.specs.declared.parts.Parts.{Parts}

unfoldable pub parts_of : Flight → Question → Parts
parts_of f q =
    record {
      mark = f.run.mark;
      a = f.run.body.a;
      track = f.run.body.track;
      trial = f.run.body.trial;
      question = q;
      next = f.next;
    }

unfoldable pub together : Flight → Parts → Flight
together f h = record { run = with_step f.run h.mark h.a h.track h.trial; next = h.next; phase = Asks h.question }

-- the open step once more
unfoldable pub tried_parts : Parts → Tried → Parts
tried_parts h d = record { mark = d.mark; a = h.a; track = h.track; trial = d.trial; question = d.question; next = h.next }

-- the step is made
unfoldable pub stepped_parts : Parts → Stepped → Parts
stepped_parts h d = record { mark = d.mark; a = d.a; track = d.track; trial = d.trial; question = d.question; next = h.next + d.stored }
