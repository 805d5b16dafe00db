-- The reader: a text's records, line by line, into memory.
use Rattle.std.specs.Prelude.{ℕ, suc, ◌+◌, ◌*◌, List, [], ◌∷◌, ◌++◌, Bool, not, ◌&&◌, eqb, ltb, length, map, take, drop, replicate, Result, Ok, Err}
use Rattle.bits.specs.Choice.{pick}
use Rattle.memory.specs.Lengths.{length_refused, bad_length}
use Rattle.intel_hex.specs.Lines.{lines}
use Rattle.intel_hex.specs.Record.{Record, Unsound, Bytes, End, Upper, record_of}
use Rattle.intel_hex.specs.declared.refused.Refusal.{Refusal}
use Rattle.intel_hex.specs.Numbers.{unsound, outside, no_end, number_of, line_of}

-- what a read answers: 0 or the number that refuses it; the line that it is refused for, counted from 1 (of a text without an end record how
-- many lines it has); the memory that it leaves
pub record Read : Type 0 where
  pub answer : ℕ
  pub line : ℕ
  pub memory : List ℕ

abbrev pub answered : ℕ → ℕ → List ℕ → Read
answered answer line mem = record { answer = answer; line = line; memory = mem }

abbrev pub zeros : List ℕ → List ℕ
zeros mem = replicate (length mem) 0

-- 41, 42 and 43 leave memory zero
abbrev pub refused : ℕ → ℕ → List ℕ → Read
refused number line mem = answered number line (zeros mem)

-- where a data record's bytes begin; addresses don't wrap
abbrev pub place : ℕ → ℕ → ℕ
place upper address = 65536 * upper + address

-- a byte at or above the length
abbrev pub beyond : ℕ → List ℕ → List ℕ → Bool
beyond at bytes mem = not (eqb (length bytes) 0) && ltb (length mem) (at + length bytes)

-- bytes put over those of memory from a place on, so that a later one wins
unfoldable pub over : ℕ → List ℕ → List ℕ → List ℕ
over at bytes mem = take at mem ++ (bytes ++ drop (at + length bytes) mem)

-- the records after so many lines, with the upper half of addresses and the memory so far; those after the end record are ignored
unfoldable pub read_on : ℕ → ℕ → List ℕ → List Record → Read
read_on k upper mem [] = refused no_end k mem
read_on k upper mem (Unsound ∷ records) = refused unsound (suc k) mem
read_on k upper mem (Bytes address bytes ∷ records) =
    pick (beyond (place upper address) bytes mem) (refused outside (suc k) mem)
    (read_on (suc k) upper (over (place upper address) bytes mem) records)
read_on k upper mem (End ∷ records) = answered 0 0 mem
read_on k upper mem (Upper half ∷ records) = read_on (suc k) half mem records

abbrev pub records : List ℕ → List Record
records text = map record_of (lines text)

-- a text into memory, whose bytes are 0 before its first line; 1 comes first, and leaves it as it was
unfoldable pub read : List ℕ → List ℕ → Read
read text mem = pick (bad_length (length mem)) (answered length_refused 0 mem) (read_on 0 0 (zeros mem) (records text))

-- what the call answers, in these numbers
abbrev pub reading : Result (Unit {0}) Refusal → List ℕ → Read
reading (Ok u) mem = answered 0 0 mem
reading (Err refusal) mem = answered (number_of refusal) (line_of refusal) mem
