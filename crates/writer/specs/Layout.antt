-- What the writer has of the layout (word's Layout).
use Rattle.std.specs.Prelude.{◌≡◌}
use Rattle.word.specs.Layout.{Fits}
use Rattle.word.specs.declared.Instruction.{Instruction}
use Rattle.writer.specs.Writer.{write_of}

-- every accepted record is written as a word that fits its table
abbrev pub Writes : Type 0
Writes = (i : Instruction) → (write_of i).number ≡ 0 → Fits (write_of i).word i
