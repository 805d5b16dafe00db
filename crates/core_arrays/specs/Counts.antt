-- A count of 64 bits as two words, the low one first.
use Rattle.std.specs.Prelude.{ℕ, ◌+◌, ◌*◌, ◌/◌, ◌%◌, ◌^◌, List, [], ◌∷◌}
use Rattle.arrays.specs.Words.{at}

abbrev pub count_words : ℕ → List ℕ
count_words n = n % 2 ^ 32 ∷ n / 2 ^ 32 ∷ []

abbrev pub joined : ℕ → ℕ → ℕ
joined low high = low + high * 2 ^ 32

abbrev pub count_at : List ℕ → ℕ → ℕ
count_at words n = joined (at words n) (at words (n + 1))
