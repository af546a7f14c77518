-- Along every path of a tree of questions: what holds of each sample, at each end, and where the steps run out, whatever the accelerations are.
use Rattle.std.specs.Prelude.{◌≡◌, ℕ, ◌+◌, List, [], ◌∷◌, length, Float}
use Rattle.triple.specs.declared.Triple.{Triple}
use Rattle.triple.specs.declared.Sample.{Sample}
use Rattle.rules.specs.Rules.{Course, asks, stores, ends, exceeds}

-- what is claimed; e counts the answers, n the samples, up to there
pub record Claims : Type 1 where
  pub sample : (n : ℕ) → Float → Type 0  -- of sample n, by its time
  pub finish : (e n : ℕ) → (t : Float) → (steps startups : ℕ) → Type 0  -- of the finished state
  pub excess : (e n : ℕ) → Type 0  -- where a further step is due and none may be made

-- a row of samples, the first of them sample n
unfoldable pub Each : (ℕ → Float → Type 0) → ℕ → List Sample → Type 0
Each P n [] = Unit {0}
Each P n (s ∷ ss) = P n s.t × Each P (n + 1) ss

unfoldable pub Always : Claims → (e n : ℕ) → Course → Type 0
Always c e n (asks q k) = (a : Triple) → Always c (e + 1) n (k a)
Always c e n (stores i ss k) = (i ≡ n) × Each c.sample n ss × Always c e (n + length ss) k
Always c e n (ends t y steps startups) = c.finish e n t steps startups
Always c e n exceeds = c.excess e n
