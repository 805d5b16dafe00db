-- A hexadecimal digit: the byte of a value, and the value of a byte.
use Rattle.std.specs.Prelude.{ℕ, ◌+◌, ◌-◌, ◌<◌, ◌≡◌, [], ◌∷◌, map, ltb, replicate}
use Rattle.bits.specs.Choice.{pick}

-- of a value below 16, upper case
abbrev pub digit : ℕ → ℕ
digit d = pick (ltb d 10) (48 + d) (55 + d)

-- the bytes from first to last count from base on; for any other byte the other number
unfoldable pub counted : ℕ → ℕ → ℕ → ℕ → ℕ → ℕ
counted byte first last base other = pick (ltb byte first) other (pick (ltb last byte) other (byte - first + base))

-- 0 to 9, A to F and a to f; 16 for a byte that is no digit
abbrev pub value_of : ℕ → ℕ
value_of byte = counted byte 48 57 0 (counted byte 65 70 10 (counted byte 97 102 10 16))

pub record Digits : Type 0 where
  -- A value is read back from its digit.
  pub inverse : (d : ℕ) → d < 16 → value_of (digit d) ≡ d
  -- So are letters in lower case; the bytes beside each range are no digits.
  pub lower : map value_of (97 ∷ 98 ∷ 99 ∷ 100 ∷ 101 ∷ 102 ∷ []) ≡ 10 ∷ 11 ∷ 12 ∷ 13 ∷ 14 ∷ 15 ∷ []
  pub none : map value_of (47 ∷ 58 ∷ 64 ∷ 71 ∷ 96 ∷ 103 ∷ []) ≡ replicate 6 16
