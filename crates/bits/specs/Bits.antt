-- Bits and fields of a word; bit 0 is the lowest.
use Rattle.std.specs.Prelude.{ℕ, ◌/◌, ◌%◌, ◌^◌, Bool, true, false, eqb}

-- the bits low .. low + width - 1 of a word, as a number
unfoldable pub field : ℕ → ℕ → ℕ → ℕ
field word low width = word / 2 ^ low % 2 ^ width

-- bit k of a word is set
unfoldable pub bit : ℕ → ℕ → Bool
bit word k = eqb (field word k 1) 1

-- a bit as a number
abbrev pub num : Bool → ℕ
num true = 1
num false = 0
