-- Storing a loaded form gives the same bytes.
use mathlib.Core.Path.{◌≡◌, refl, ◌∙◌, ap}
use Prim.Native.Nat.{ℕ, ◌+◌, ◌*◌, ◌/◌, ◌%◌, ◌^◌, ◌≤◌, ◌<◌}
use native.Mathlib.Omega.{arith}
use mathlib.Core.Bool.{Bool, true, false}
use lib.Dec.{ltb}
use mathlib.Core.List.{List}
use lib.ListN.{length, get_or, get_or-eq_default}
use borrow.Author.Tests.{eq-eqb, ltb-true, ltb-false}
use Rattle.blocks.specs.Rows.{row}
use Rattle.blocks.specs.Blocks.{word_at, content_at, content_of, written, form}
use Rattle.blocks.specs.Trips.{Below}
use Rattle.blocks.proofs.Filled.{length_row, at_row}
use Rattle.blocks.proofs.Trips.{read_is_written}
use Rattle.stored.specs.Stored.{storing, stored_in}
use Rattle.stored.specs.Trips.{quieted, LoadedIsStored}
use Rattle.stored.proofs.Known.{known}
use Rattle.stored.proofs.Again.{content_again}
use Rattle.stored.proofs.Opened.{opened}

-- the content of bytes is words
words_small : (bytes : List ℕ) → Below 256 bytes → Below (2 ^ 32) (content_of bytes)
unfolding content_of content_at word_at
words_small bytes small i = go (ltb i 504) refl
  where
    k : ℕ
    k = 128 * (i / 126) + 1 + i % 126

    go : (d : Bool) → ltb i 504 ≡ d → get_or (row (content_at bytes) 504) i 0 < 2 ^ 32
    go true e = rw (at_row (content_at bytes) 504 i 0 (ltb-true _ _ e)) (omega (arith, small (4 * k), small (4 * k + 1), small (4 * k + 2), small (4 * k + 3)))
    go false e =
        let h : 504 ≤ i = ltb-false _ _ e in
        rw (get_or-eq_default (row (content_at bytes) 504) 0 {n = i} (omega (arith, length_row (content_at bytes) 504))) (omega arith)

content_length : (bytes : List ℕ) → length (content_of bytes) ≡ 504
unfolding content_of
content_length bytes = length_row (content_at bytes) 504

pub loaded_is_stored : LoadedIsStored
unfolding storing stored_in written
loaded_is_stored held bytes q small t =
    let o = opened held bytes q t in
    let again = content_again (content_of bytes) (content_length bytes) (words_small bytes small) (known _ o.known) o.zeros in
    record {
      accepted = λ (out : List ℕ) (e : length out ≡ 2048). rw (o.run, o.sound, eq-eqb _ _ e);
      quiet = λ (out : List ℕ) (e : length out ≡ 2048). rw (o.run, o.sound, eq-eqb _ _ e, again);
      same = λ (out : List ℕ) (e : length out ≡ 2048) (z : quieted (content_of bytes) ≡ content_of bytes).
          rw (o.run, o.sound, eq-eqb _ _ e, again) (ap form z ∙ read_is_written bytes small o.whole);
    }
