-- Words written into a list of bytes, four bytes each, the lowest first.
use Rattle.std.specs.Prelude.{ℕ, zero, suc, ◌+◌, ◌*◌, ◌/◌, ◌%◌, List, slice_set}

-- word i of the list becomes w
unfoldable pub put_word : List ℕ → ℕ → ℕ → List ℕ
put_word l i w =
    slice_set (slice_set (slice_set (slice_set l (4 * i) (w % 256)) (4 * i + 1) (w / 256 % 256)) (4 * i + 2) (w / 65536 % 256)) (4 * i + 3) (w / 16777216 % 256)

-- n words from word i on become `word` of their places
unfoldable pub put_words : (ℕ → ℕ) → ℕ → ℕ → List ℕ → List ℕ
put_words word i zero l = l
put_words word i (suc n) l = put_word (put_words word i n l) (i + n) (word (i + n))
