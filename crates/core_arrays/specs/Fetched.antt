-- A fetched word as two words: itself and 1, or, where it is blank, 0 and 0.
use Rattle.std.specs.Prelude.{ℕ, ◌+◌, Bool, ◌&&◌, ◌||◌, List, [], ◌∷◌, ◌==◌, Option, Some, None}
use Rattle.bits.specs.Choice.{pick}
use Rattle.arrays.specs.Words.{at}

abbrev pub word_in : Option ℕ → ℕ
word_in (Some w) = w
word_in None = 0

abbrev pub validity : Option ℕ → ℕ
validity (Some w) = 1
validity None = 0

abbrev pub fetched_words : Option ℕ → List ℕ
fetched_words f = word_in f ∷ validity f ∷ []

abbrev pub fetched_of : ℕ → ℕ → Option ℕ
fetched_of w valid = pick (valid == 0) None (Some w)

abbrev pub fetched_at : List ℕ → ℕ → Option ℕ
fetched_at words n = fetched_of (at words n) (at words (n + 1))

-- a word is not half valid
abbrev pub stands_for_fetched : ℕ → ℕ → Bool
stands_for_fetched w valid = valid == 1 || (valid == 0 && w == 0)

abbrev pub stands_at : List ℕ → ℕ → Bool
stands_at words n = stands_for_fetched (at words n) (at words (n + 1))
