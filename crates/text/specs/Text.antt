-- Text as bytes: decimal and hexadecimal numbers.
use Rattle.std.specs.Prelude.{ℕ, zero, suc, ◌/◌, ◌%◌, List, [], ◌∷◌, ◌++◌, ltb}
use Rattle.bits.specs.Choice.{pick}
use Rattle.text.specs.Digit.{digit}

-- the k lowest hexadecimal digits of n, the highest first
unfoldable pub hex_digits : ℕ → ℕ → List ℕ
hex_digits zero n = []
hex_digits (suc k) n = hex_digits k (n / 16) ++ (digit (n % 16) ∷ [])

-- the decimal digits of n without leading zeros, at most k of them
unfoldable pub decimal_digits : ℕ → ℕ → List ℕ
decimal_digits zero n = []
decimal_digits (suc k) n = pick (ltb n 10) [] (decimal_digits k (n / 10)) ++ (digit (n % 10) ∷ [])

-- a number below 2^64 has at most 20 decimal digits
abbrev pub decimal : ℕ → List ℕ
decimal n = decimal_digits 20 n
