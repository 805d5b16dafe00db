-- A count's two words and the count are inverse to each other. Assumes nothing.
use Rattle.std.proofs.Common.{◌≡◌, ℕ, ◌^◌, ◌<◌, List, [], ◌∷◌, arith}
use Rattle.core_arrays.specs.Counts.{count_words, count_at}

pub count-back : (n : ℕ) → count_at (count_words n) 0 ≡ n
count-back n = omega arith

pub count-words-back : (a b : ℕ) → a < 2 ^ 32 → b < 2 ^ 32 → count_words (count_at (a ∷ b ∷ []) 0) ≡ a ∷ b ∷ []
count-words-back a b h k = both (omega arith) (omega arith)
  where
    both : {c d : ℕ} → c ≡ a → d ≡ b → ◌≡◌ {A = List ℕ} (c ∷ d ∷ []) (a ∷ b ∷ [])
    both e g = cc
