-- Rows of numbered samples, one after the other, before a story.
use mathlib.Core.Path.{◌≡◌, sym, ap, ◌∙◌}
use Prim.Native.Nat.{ℕ, ◌+◌}
use native.Mathlib.Omega.{arith}
use mathlib.Core.List.{List, [], ◌∷◌, ◌++◌, append_assoc}
use lib.ListN.{length}
use Rattle.triple.specs.declared.Sample.{Sample}
use Rattle.flight.specs.Story.{Entry, Story, numbered, before}

numbered_more : (ss rs : List Sample) (n m : ℕ) → n + length ss ≡ m → numbered n (ss ++ rs) ≡ numbered n ss ++ numbered m rs
unfolding numbered
numbered_more [] rs n m e = let f : n ≡ m = omega arith in ap (λ (i : ℕ). numbered i rs) f
numbered_more (s ∷ ss) rs n m e = ap (λ (l : List Entry). record { number = n; sample = s } ∷ l) (numbered_more ss rs (n + 1) m (omega arith))

pub told_more : (ss rs : List Sample) (n m : ℕ) (left : Story) → n + length ss ≡ m → before (numbered n ss) (before (numbered m rs) left) ≡ before (numbered n (ss ++ rs)) left
told_more ss rs n m left e =
    ap (λ (r : List Entry). record { samples = r; ending = left.ending })
    (sym (append_assoc (numbered n ss) (numbered m rs) left.samples) ∙ ap (λ (r : List Entry). r ++ left.samples) (sym (numbered_more ss rs n m e)))
