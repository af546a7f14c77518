-- `sixteen` is `number_read`, digit after digit.
use Rattle.std.proofs.Common.{◌≡◌, ◌^◌, ◌<◌, drop}
use Rattle.lines.specs.Read.{are_digits, value_from, value_of}
use Rattle.lines.proofs.reading.sixteen.Given as goal

abbrev pub invariant-loop-b : goal.invariant-loop-b
invariant-loop-b l =
    record {
      fits : l.value < 16 ^ l.b-index;
      good : are_digits l.digits ≡ are_digits (drop l.b-index l.digits);
      worth : value_from l.value (drop l.b-index l.digits) ≡ value_of l.digits;
    }
