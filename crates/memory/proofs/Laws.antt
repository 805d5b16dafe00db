-- The laws of memory as a board answers: what a write keeps, and what is read back, by the word in which an address lies.
-- Assumes nothing.
use Prim.Native.Nat.{ℕ, ◌/◌, ◌%◌, ◌^◌, ◌<◌}
use mathlib.Core.Path.{◌≡◌}
use mathlib.Core.Bool.{true}
use native.Mathlib.Omega.{arith}
use lib.ListN.{length}
use Rattle.memory.specs.Bytes.{holds_word}
use Rattle.memory.specs.Memory.{Memory, place, limit, read_word, write_word, write_byte, word_at}
use Rattle.memory.proofs.ByteLaws as bytes

module _ (m : Memory) (a : ℕ) where
  -- the word of the address is in the lent bytes
  abbrev pub Held : Type 0
  Held = holds_word m.bytes (place m.board a) ≡ true

  -- it is where the address answers
  pub held : length m.bytes ≡ m.board.size → length m.bytes % 4 ≡ 0 → a < limit m.board → Held
  unfolding place limit
  held e whole h = bytes.holds-word m.bytes a (omega arith) whole

  pub write-length : (v : ℕ) → length (write_word m a v).bytes ≡ length m.bytes
  write-length v = bytes.write-length m.bytes (place m.board a) v

  pub write-byte-length : (v : ℕ) → length (write_byte m a v).bytes ≡ length m.bytes
  write-byte-length v = bytes.write-byte-length m.bytes (place m.board a) v

  pub read_back : (v : ℕ) → Held → v < 2 ^ 32 → read_word (write_word m a v) a ≡ v
  read_back v = bytes.read_back m.bytes (place m.board a) v

-- the other words
module _ (m : Memory) (a b v : ℕ) (n : place m.board a / 4 ≡ place m.board b / 4 → ⊥) where
  pub read-other : read_word (write_word m a v) b ≡ read_word m b
  read-other = bytes.read-other m.bytes (place m.board a) (place m.board b) v n

  pub word-at-other : word_at (write_word m a v) b ≡ word_at m b
  unfolding word_at
  word-at-other = rw read-other

  pub word-at-other-byte : word_at (write_byte m a v) b ≡ word_at m b
  unfolding word_at
  word-at-other-byte = rw (bytes.read-other-byte m.bytes (place m.board a) (place m.board b) v n)
