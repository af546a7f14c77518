-- What follows from a claim holds along every path on which the claim holds.
use Prim.Native.Nat.{ℕ, ◌+◌}
use mathlib.Core.List.{List, [], ◌∷◌}
use lib.ListN.{length}
use lib.Ieee.{Float}
use Rattle.triple.specs.declared.Triple.{Triple}
use Rattle.triple.specs.declared.Sample.{Sample}
use Rattle.rules.specs.Rules.{Course, asks, stores, ends, exceeds}
use Rattle.counting.specs.Paths.{Claims, Each, Always}

each_follows : (P R : ℕ → Float → Type 0) → ((n : ℕ) (t : Float) → P n t → R n t) → (n : ℕ) (ss : List Sample) → Each P n ss → Each R n ss
unfolding Each
each_follows P R f n [] h = tt
each_follows P R f n (s ∷ ss) h = (f n s.t h.0, each_follows P R f (n + 1) ss h.1)

pub always_follows : (c c' : Claims) → ((n : ℕ) (t : Float) → c.sample n t → c'.sample n t)
    → ((e n : ℕ) (t : Float) (steps startups : ℕ) → c.finish e n t steps startups → c'.finish e n t steps startups)
    → ((e n : ℕ) → c.excess e n → c'.excess e n) → (e n : ℕ) (k : Course) → Always c e n k → Always c' e n k
unfolding Always
always_follows c c' f g x e n (asks q k) h = λ (a : Triple). always_follows c c' f g x (e + 1) n (k a) (h a)
always_follows c c' f g x e n (stores i ss k) h = (h.0, each_follows c.sample c'.sample f n ss h.1, always_follows c c' f g x e (n + length ss) k h.2)
always_follows c c' f g x e n (ends t y steps startups) h = g e n t steps startups h
always_follows c c' f g x e n exceeds h = x e n h
