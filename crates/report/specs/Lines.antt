-- The lines of the report: a name, a number, a line feed.
use Rattle.std.specs.Prelude.{ℕ, zero, suc, List, [], ◌∷◌, ◌++◌, get_or}
use Rattle.text.specs.Text.{hex_digits, decimal}

abbrev pub line : List ℕ → List ℕ → List ℕ
line name number = name ++ (number ++ (10 ∷ []))

-- rK=, with eight hexadecimal digits
unfoldable pub register_line : ℕ → ℕ → List ℕ
register_line k value = (114 ∷ []) ++ (decimal k ++ line (61 ∷ []) (hex_digits 8 value))

-- the lines of the first k registers
unfoldable pub register_lines : ℕ → List ℕ → List ℕ
register_lines zero registers = []
register_lines (suc k) registers = register_lines k registers ++ register_line k (get_or registers k 0)
