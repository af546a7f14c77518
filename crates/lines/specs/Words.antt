-- Bytes side by side in one word, the first one lowest: how `src/word.rt` writes eight digits at once. No promise to a
-- caller cites this file.
use Rattle.std.specs.Prelude.{ℕ, zero, suc, ◌+◌, ◌*◌, ◌/◌, ◌%◌, List, [], ◌∷◌}

-- fields of a word, each of `size` values
unfoldable pub fields : ℕ → List ℕ → ℕ
fields size [] = 0
fields size (x ∷ xs) = fields size xs * size + x

-- the k lowest bytes of a word
unfoldable pub bytes_of : ℕ → ℕ → List ℕ
bytes_of zero w = []
bytes_of (suc k) w = w % 256 ∷ bytes_of k (w / 256)
