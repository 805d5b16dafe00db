-- The lines of a text: each ends in LF, in CR LF or with the text, and an empty rest is no line.
use Rattle.std.specs.Prelude.{ℕ, List, [], ◌∷◌, Bool, ◌&&◌, eqb, get_or}
use Rattle.bits.specs.Choice.{pick}

-- a byte at the beginning of the first line
abbrev pub before : ℕ → List (List ℕ) → List (List ℕ)
before byte [] = (byte ∷ []) ∷ []
before byte (line ∷ lines) = (byte ∷ line) ∷ lines

abbrev pub line_feed : ℕ
line_feed = 10

abbrev pub carriage_return : ℕ
carriage_return = 13

-- CR right before LF is of the line's end; any other is a byte of the line
abbrev pub of_the_end : ℕ → List ℕ → Bool
of_the_end byte text = eqb byte carriage_return && eqb (get_or text 0 0) line_feed

unfoldable pub lines : List ℕ → List (List ℕ)
lines [] = []
lines (byte ∷ text) =
    pick (eqb byte line_feed) ([] ∷ lines text) (pick (of_the_end byte text) (lines text) (before byte (lines text)))
