-- The writer: a line for each line number from 0.
use Rattle.std.specs.Prelude.{ℕ, ◌+◌, ◌-◌, ◌*◌, ◌/◌, ◌%◌, List, [], ◌∷◌, ◌++◌, eqb, ltb, length, take, drop, sum, Result, Ok, Err}
use Rattle.bits.specs.Choice.{pick}
use Rattle.text.specs.Text.{hex_digits}
use Rattle.memory.specs.Lengths.{length_refused, bad_length}
use Rattle.intel_hex.specs.declared.refused.Refusal.{Refusal}
use Rattle.intel_hex.specs.Numbers.{number_of}
use Rattle.intel_hex.specs.Lines.{line_feed}
use Rattle.intel_hex.specs.Record.{colon, data_type, end_type}

-- bytes as digit pairs, upper case
unfoldable pub pairs : List ℕ → List ℕ
pairs [] = []
pairs (byte ∷ bytes) = hex_digits 2 byte ++ pairs bytes

-- the checksum: the byte that brings the sum of a record's bytes to 0 modulo 256
abbrev pub checksum : List ℕ → ℕ
checksum bytes = (256 - sum bytes % 256) % 256

-- the bytes of a record before its sum
abbrev pub unsummed : ℕ → ℕ → List ℕ → List ℕ
unsummed type address bytes = length bytes ∷ address / 256 % 256 ∷ address % 256 ∷ type ∷ bytes

abbrev pub summed : List ℕ → List ℕ
summed bytes = bytes ++ (checksum bytes ∷ [])

unfoldable pub record_line : ℕ → ℕ → List ℕ → List ℕ
record_line type address bytes = colon ∷ (pairs (summed (unsummed type address bytes)) ++ (line_feed ∷ []))

-- data bytes of a record
abbrev pub row : ℕ
row = 16

-- how many lines have data, of a memory of n bytes: the last one may be shorter
abbrev pub rows : ℕ → ℕ
rows n = (n + (row - 1)) / row

-- the whole memory from address 0, then the end record, then nothing
unfoldable pub line : List ℕ → ℕ → List ℕ
line mem number =
    pick (ltb number (rows (length mem))) (record_line data_type (row * number) (take row (drop (row * number) mem)))
    (pick (eqb number (rows (length mem))) (record_line end_type 0 [])
    [])

-- what the writer answers, and the line
pub record Written : Type 0 where
  pub answer : ℕ
  pub text : List ℕ

abbrev pub written : ℕ → List ℕ → Written
written answer text = record { answer = answer; text = text }

-- 1 comes first, for every line
unfoldable pub write : List ℕ → ℕ → Written
write mem number = pick (bad_length (length mem)) (written length_refused []) (written 0 (line mem number))

-- what the call answers, in these numbers
abbrev pub writing : Result (List ℕ) Refusal → Written
writing (Ok text) = written 0 text
writing (Err refusal) = written (number_of refusal) []
