-- `lines` is `read_nine` of a text that is as long as nine lines.
use Rattle.std.proofs.Common.{◌≡◌, ◌-◌, ◌*◌, length, drop}
use Rattle.lines.specs.Put.{over}
use Rattle.lines.specs.Nine.{are_lines, patterns_of, ended, is_nine}
use Rattle.lines.proofs.reading.lines.Given as goal

abbrev pub invariant-loop-i : goal.invariant-loop-i
invariant-loop-i l =
    record {
      room : length l.numbers ≡ 9;
      good : is_nine l.text ≡ are_lines (9 - l.i) (drop (17 * l.i) (ended l.text));
      worth : over l.i (patterns_of (9 - l.i) (drop (17 * l.i) (ended l.text))) l.numbers ≡ patterns_of 9 (ended l.text);
    }
