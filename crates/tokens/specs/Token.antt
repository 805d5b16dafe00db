-- A token of a case: a word as eight hexadecimal digits, the highest first.
use Rattle.std.specs.Prelude.{ℕ, ◌+◌, ◌*◌, ◌%◌, ◌^◌, List, ◌∷◌, get_or}
use Rattle.text.specs.Digit.{value_of}
use Rattle.text.specs.Text.{hex_digits}

-- a byte's two digits; a byte of text that is no digit counts as 0
abbrev pub pair_of : ℕ → ℕ → ℕ
pair_of high low = value_of high % 16 * 16 + value_of low % 16

unfoldable pub word_of : List ℕ → ℕ
word_of text =
    let at : ℕ → ℕ = λ k. pair_of (get_or text k 0) (get_or text (k + 1) 0) in
    at 0 * 2 ^ 24 + at 2 * 2 ^ 16 + at 4 * 2 ^ 8 + at 6

-- a word as it is printed: behind a space
abbrev pub printed : ℕ → List ℕ
printed word = 32 ∷ hex_digits 8 word
