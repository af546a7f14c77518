-- Which bytes are an input, and how a NaN is printed. The proofs are `which_bytes` and `every_nan` in proofs/Examples.antt, by computing.
use Rattle.std.specs.Prelude.{◌≡◌, ℕ, zero, suc, true, false, List, [], ◌∷◌, ◌++◌, take, drop, replicate}
use Rattle.std.specs.Float.{nan}
use Rattle.lines.specs.Digits.{float_hex}
use Rattle.lines.specs.Nine.{is_nine}

-- n lines of sixteen times A
abbrev pub line : ℕ → List ℕ
line zero = []
line (suc n) = replicate 16 65 ++ (10 ∷ line n)

pub record WhichBytes : Type 0 where
  pub capitals : is_nine (line 9) ≡ true
  pub last_newline_missing : is_nine (take 152 (line 9)) ≡ true
  pub eight : is_nine (line 8) ≡ false
  pub one_newline_more : is_nine (line 9 ++ (10 ∷ [])) ≡ false
  pub blank_before : is_nine (32 ∷ take 152 (line 9)) ≡ false
  pub blank_for_a_digit : is_nine (32 ∷ drop 1 (line 9)) ≡ false
  pub carriage_return : is_nine (take 152 (line 9) ++ (13 ∷ 10 ∷ [])) ≡ false
  pub carriage_return_alone : is_nine (take 152 (line 9) ++ (13 ∷ [])) ≡ false

-- 7ff8000000000000; there is one NaN among the floats of the definitions
abbrev pub EveryNan : Type 0
EveryNan = float_hex nan ≡ 55 ∷ 102 ∷ 102 ∷ 56 ∷ replicate 12 48
