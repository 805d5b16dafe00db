-- Reading a written file yields the same memory; and a record of any count at any address is read back from its line.
use Rattle.std.specs.Prelude.{ℕ, zero, suc, ◌<◌, ◌≡◌, List, [], ◌∷◌, ◌++◌, length}
use Rattle.memory.specs.Lanes as lanes
use Rattle.memory.specs.Lengths.{GoodLength}
use Rattle.intel_hex.specs.Record.{Bytes, data_type}
use Rattle.intel_hex.specs.Reader.{answered, records, read}
use Rattle.intel_hex.specs.Writer.{rows, record_line, write}

-- what the writer hands back for the first n line numbers, one after another
unfoldable pub file : List ℕ → ℕ → List ℕ
file mem zero = []
file mem (suc n) = file mem n ++ (write mem n).text

-- every memory of an allowed length, written up to its end record or further, and read into any memory of that length
abbrev pub RoundTrip : Type 0
RoundTrip =
    (mem lent : List ℕ) (n : ℕ) → lanes.Bytes mem → GoodLength (length mem) → length lent ≡ length mem → rows (length mem) < n
    → read (file mem n) lent ≡ answered 0 0 mem

abbrev pub RecordsBack : Type 0
RecordsBack =
    (address : ℕ) (bytes : List ℕ) → lanes.Bytes bytes → address < 65536 → length bytes < 256
    → records (record_line data_type address bytes) ≡ Bytes address bytes ∷ []
