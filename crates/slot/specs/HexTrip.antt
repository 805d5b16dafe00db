-- The calls for Intel HEX together: the lines that are written, whatever out held, are read as the same memory; and 1 for a bad length.
use Rattle.std.specs.Prelude.{ℕ, zero, suc, ◌<◌, ◌≡◌, List, [], ◌++◌, length, take}
use Rattle.memory.specs.Lanes as lanes
use Rattle.memory.specs.Lengths.{GoodLength}
use Rattle.intel_hex.specs.Writer.{rows}
use Rattle.slot.specs.Hex.{read_as, hex_read, line_as, hex_line}

-- the bytes that the calls for the first n line numbers write, one after another
unfoldable pub file : List ℕ → List ℕ → ℕ → List ℕ
file mem out zero = []
file mem out (suc n) = file mem out n ++ take (hex_line mem n out).written (hex_line mem n out).out

pub record HexTrip (mem : List ℕ) : Type 0 where
  pub same : (lent out : List ℕ) (n : ℕ) → lanes.Bytes mem → GoodLength (length mem) → length lent ≡ length mem → rows (length mem) < n
      → hex_read (file mem out n) lent ≡ read_as 0 mem
  pub not_read : (text : List ℕ) → (GoodLength (length mem) → ⊥) → hex_read text mem ≡ read_as 1 mem
  pub not_written : (out : List ℕ) (number : ℕ) → (GoodLength (length mem) → ⊥) → hex_line mem number out ≡ line_as 1 0 out
