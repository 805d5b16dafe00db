-- Bytes and words of one memory: the byte of an address is the byte of its word that the low two address bits name, the first the lowest.
use Rattle.std.specs.Prelude.{ℕ, ◌*◌, ◌/◌, ◌%◌, ◌^◌, ◌<◌, ◌≡◌, List, length, get_or}
use Rattle.bits.specs.Bits.{field}
use Rattle.memory.specs.Memory.{Memory, place, limit, read_word, write_word, read_byte, write_byte}

-- byte k of a word, the lowest first
abbrev pub lane : ℕ → ℕ → ℕ
lane word k = field word (8 * k) 8

-- each element is a byte
abbrev pub Bytes : List ℕ → Type 0
Bytes mem = (k : ℕ) → get_or mem k 0 < 256

-- of an address a that answers, in a memory of whole words
pub record LanesAt (m : Memory) (a : ℕ) : Type 0 where
  -- the byte at a is byte a mod 4 of the word at a
  pub read : read_byte m a ≡ lane (read_word m a) (a % 4)
  -- after a word is written there, the byte at each of its four addresses is that byte of the value
  pub written : (b v : ℕ) → place m.board a / 4 ≡ place m.board b / 4 → v < 2 ^ 32 → read_byte (write_word m a v) b ≡ lane v (b % 4)
  -- and no byte of another word is changed
  pub unwritten : (b v : ℕ) → (place m.board a / 4 ≡ place m.board b / 4 → ⊥) → read_byte (write_word m a v) b ≡ read_byte m b
  -- a stored byte, the low one of the value, changes that byte of the word
  pub stored : (v : ℕ) → lane (read_word (write_byte m a v) a) (a % 4) ≡ lane v 0
  -- and no other, of this word or of another
  pub kept : (b v : ℕ) → b < limit m.board → (place m.board a ≡ place m.board b → ⊥) → lane (read_word (write_byte m a v) b) (b % 4) ≡ lane (read_word m b) (b % 4)

abbrev pub Lanes : Type 0
Lanes = (m : Memory) (a : ℕ) → Bytes m.bytes → length m.bytes ≡ m.board.size → length m.bytes % 4 ≡ 0 → a < limit m.board → LanesAt m a
