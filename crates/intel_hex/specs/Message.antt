-- What people are told of a refusal: its number, what it means, and the line.
use Rattle.std.specs.Prelude.{ℕ, List, ◌++◌}
use Rattle.text.specs.Text.{decimal}
use Rattle.text.specs.Quoted.{bytes}
use Rattle.intel_hex.specs.declared.refused.Refusal.{Refusal}
use Rattle.intel_hex.specs.declared.refused.Refusal.TheVariants.{Length, Unsound, Outside, NoEnd}
use Rattle.intel_hex.specs.Numbers.{number_of}

abbrev pub meaning : Refusal → List ℕ
meaning Length = bytes "an image has 16 to 65,536 bytes, a multiple of 4"
meaning (Unsound line) = bytes "line " ++ (decimal line ++ bytes " is not a sound record of type 00, 01 or 04")
meaning (Outside line) = bytes "line " ++ (decimal line ++ bytes " has data beyond the memory")
meaning (NoEnd lines) = bytes "no end record, the text ends after line " ++ decimal lines

abbrev pub message : Refusal → List ℕ
message refusal = bytes "refused with " ++ (decimal (number_of refusal) ++ (bytes ": " ++ meaning refusal))
