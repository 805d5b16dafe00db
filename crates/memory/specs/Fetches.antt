-- What a fetch gives, by the address and the length (paper 01, "Pipeline"): the bytes there as a word, or blank outside memory.
use Rattle.std.specs.Prelude.{ℕ, ◌%◌, ◌≤◌, ◌<◌, ◌≡◌, length, Some, None}
use Rattle.memory.specs.Bytes.{word_base, load_word}
use Rattle.memory.specs.Memory.{Memory, word_at}

pub record FetchesOf (m : Memory) : Type 0 where
  pub inside : (a : ℕ) → a < length m.bytes → word_at m a ≡ Some (load_word m.bytes (word_base a))
  pub outside : (a : ℕ) → length m.bytes ≤ a → word_at m a ≡ None

-- of the board's size, in whole words
abbrev pub Fetches : Type 0
Fetches = (m : Memory) → length m.bytes ≡ m.board.size → length m.bytes % 4 ≡ 0 → FetchesOf m
