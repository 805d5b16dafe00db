-- Arrays of words: a word by its place, words put from a place on, the registers that the array of either machine begins with.
use Rattle.std.specs.Prelude.{ℕ, zero, suc, ◌+◌, List, [], ◌∷◌, get_or, set}

-- word n of an array
abbrev pub at : List ℕ → ℕ → ℕ
at words n = get_or words n 0

-- an array with new words from place n on
abbrev pub put : List ℕ → ℕ → List ℕ → List ℕ
put words n [] = words
put words n (word ∷ rest) = put (set words n word) (n + 1) rest

-- the first n values of a function
abbrev pub firsts : ℕ → (ℕ → ℕ) → List ℕ
firsts zero f = []
firsts (suc n) f = f zero ∷ firsts n (λ k. f (suc k))

-- words 0 to 14
abbrev pub registers_of : List ℕ → List ℕ
registers_of words = firsts 15 (λ n. at words n)
