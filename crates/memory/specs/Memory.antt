-- Memory as a board answers: what is fetched, read and written at an address.
use Rattle.std.specs.Prelude.{ℕ, List, ltb, Option, Some, None}
use Rattle.bits.specs.Choice.{pick}
use Rattle.memory.specs.declared.Board.{Board}
use Rattle.memory.specs.Bytes.{word_in, with_word, byte_in, with_byte}

-- lent bytes on a board
pub record Memory : Type 0 where
  pub board : Board
  pub bytes : List ℕ

abbrev pub memory_of : Board → List ℕ → Memory
memory_of board bytes = record { board = board; bytes = bytes }

-- where an address lies in the lent bytes
unfoldable pub place : Board → ℕ → ℕ
place board a = a

-- the first address at which nothing answers
unfoldable pub limit : Board → ℕ
limit board = board.size

abbrev pub read_word : Memory → ℕ → ℕ
read_word m a = word_in m.bytes (place m.board a)

abbrev pub write_word : Memory → ℕ → ℕ → Memory
write_word m a v = memory_of m.board (with_word m.bytes (place m.board a) v)

abbrev pub read_byte : Memory → ℕ → ℕ
read_byte m a = byte_in m.bytes (place m.board a)

abbrev pub write_byte : Memory → ℕ → ℕ → Memory
write_byte m a v = memory_of m.board (with_byte m.bytes (place m.board a) v)

-- the word that a fetch at a gives: blank outside memory
unfoldable pub word_at : Memory → ℕ → Option ℕ
word_at m a = pick (ltb a (limit m.board)) (Some (read_word m a)) None
