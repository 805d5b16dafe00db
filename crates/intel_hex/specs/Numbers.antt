-- Why a text is not read, by its number.
use Rattle.std.specs.Prelude.{ℕ}
use Rattle.memory.specs.Lengths.{length_refused}
use Rattle.intel_hex.specs.declared.refused.Refusal.{Refusal}
use Rattle.intel_hex.specs.declared.refused.Refusal.TheVariants.{Length, Unsound, Outside, NoEnd}

-- a line that is no sound record of types 00, 01 and 04
abbrev pub unsound : ℕ
unsound = 41

-- data beyond the lent memory
abbrev pub outside : ℕ
outside = 42

-- the text ends before an end record
abbrev pub no_end : ℕ
no_end = 43

abbrev pub number_of : Refusal → ℕ
number_of Length = length_refused
number_of (Unsound line) = unsound
number_of (Outside line) = outside
number_of (NoEnd lines) = no_end

abbrev pub line_of : Refusal → ℕ
line_of Length = 0
line_of (Unsound line) = line
line_of (Outside line) = line
line_of (NoEnd lines) = lines
