-- Writing and reading undo each other. The proofs are in proofs/Trips.antt.
use Rattle.std.specs.Prelude.{◌≡◌, ℕ, ◌^◌, ◌<◌, true, List, length, slice_index}
use Rattle.blocks.specs.Blocks.{form, is_whole, content_of}

-- numbers of a machine: each below this bound
abbrev pub Below : ℕ → List ℕ → Type 0
Below bound l = (i : ℕ) → slice_index l i < bound

-- what is written is read again
pub record ReadAgain (content : List ℕ) : Type 0 where
  pub whole : is_whole (form content) ≡ true
  pub same : content_of (form content) ≡ content

abbrev pub WrittenIsRead : Type 0
WrittenIsRead = (content : List ℕ) → length content ≡ 504 → Below (2 ^ 32) content → ReadAgain content

-- and what is read is written again
abbrev pub ReadIsWritten : Type 0
ReadIsWritten = (bytes : List ℕ) → Below 256 bytes → is_whole bytes ≡ true → form (content_of bytes) ≡ bytes
