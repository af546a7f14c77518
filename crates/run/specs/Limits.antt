-- How far a run's numbers go.
use Rattle.std.specs.Prelude.{ℕ}

-- "after 65,535 the next question is numbered 0"
abbrev pub numbering : ℕ
numbering = 65536

-- above every count of a run within the settings' limits: all that a private helper asks of a count which it adds to
abbrev pub ample : ℕ
ample = 1_000_000_000_000
