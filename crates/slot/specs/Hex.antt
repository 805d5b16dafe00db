-- What the calls for images as Intel HEX answer and leave.
use Rattle.std.specs.Prelude.{ℕ, List, ◌++◌, length, drop}
use Rattle.intel_hex.specs.Reader.{read}
use Rattle.intel_hex.specs.Writer.{write}

-- the number that a read answers, and the memory that it leaves
pub record Read : Type 0 where
  pub answer : ℕ
  pub memory : List ℕ

abbrev pub read_as : ℕ → List ℕ → Read
read_as answer mem = record { answer = answer; memory = mem }

abbrev pub hex_read : List ℕ → List ℕ → Read
hex_read text mem = read_as (read text mem).answer (read text mem).memory

-- the number that a line answers, how many bytes were written, and the lent bytes afterwards: those behind the line are as they were
pub record Line : Type 0 where
  pub answer : ℕ
  pub written : ℕ
  pub out : List ℕ

abbrev pub line_as : ℕ → ℕ → List ℕ → Line
line_as answer written out = record { answer = answer; written = written; out = out }

abbrev pub hex_line : List ℕ → ℕ → List ℕ → Line
hex_line mem number out =
    let w = write mem number in
    line_as w.answer (length w.text) (w.text ++ drop (length w.text) out)
