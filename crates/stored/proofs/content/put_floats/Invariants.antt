-- `put_floats`: triple after triple.
use mathlib.Core.Path.{◌≡◌}
use Prim.Native.Nat.{ℕ, ◌-◌, ◌*◌}
use Rattle.blocks.specs.Rows.{filled_from}
use Rattle.stored.specs.Content.{float_word}
use Rattle.stored.proofs.content.put_floats.Given as goal

abbrev pub invariant-loop-q : goal.invariant-loop-q
invariant-loop-q l = l.content ≡ filled_from (λ (j : ℕ). float_word l.u l.t-items (j - 6)) 6 (6 * l.q) l.initial.content
