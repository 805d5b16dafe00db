-- What a read leaves at each address, said without memory: the byte that the last record naming the address gives, 0 where none does. A second
-- road to what records do to memory, with the numbers given anew.
use Rattle.std.specs.Prelude.{ℕ, ◌+◌, ◌-◌, ◌*◌, ◌<◌, ◌≤◌, ◌≡◌, true, ◌&&◌, List, [], ◌∷◌, leb, ltb, length, get_or}
use Rattle.bits.specs.Choice.{pick}
use Rattle.intel_hex.specs.Record.{Record, Unsound, Bytes, End, Upper}
use Rattle.intel_hex.specs.Reader.{beyond, records, read}

-- the byte that data gives an address, or what it had
abbrev pub named : ℕ → ℕ → List ℕ → ℕ → ℕ
named a at bytes had = pick (leb at a && ltb a (at + length bytes)) (get_or bytes (a - at) 0) had

-- the byte of an address after these records, by the upper half of their addresses and what it had
unfoldable pub byte_after : ℕ → ℕ → ℕ → List Record → ℕ
byte_after upper a had [] = had
byte_after upper a had (Unsound ∷ records) = had
byte_after upper a had (Bytes address bytes ∷ records) = byte_after upper a (named a (65536 * upper + address) bytes had) records
byte_after upper a had (End ∷ records) = had
byte_after upper a had (Upper half ∷ records) = byte_after half a had records

abbrev pub Named : Type 0
Named = (text mem : List ℕ) (a : ℕ) → (read text mem).answer ≡ 0 → a < length mem → get_or (read text mem).memory a 0 ≡ byte_after 0 a 0 (records text)

-- Data is beyond a memory exactly where one of its bytes is at or above the length.
pub record Beyond (at : ℕ) (bytes mem : List ℕ) : Type 0 where
  pub some : beyond at bytes mem ≡ true → (j : ℕ) × (j < length bytes) × (length mem ≤ at + j)
  pub all : (j : ℕ) → j < length bytes → length mem ≤ at + j → beyond at bytes mem ≡ true
