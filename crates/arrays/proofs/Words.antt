-- Arrays of a known length, word by word. Assumes nothing.
use Prim.Native.Nat.{ℕ, zero, suc, ◌<◌}
use mathlib.Core.Path.{◌≡◌, refl, ap, subst}
use mathlib.Core.List.{List, [], ◌∷◌, ◌++◌}
use native.Mathlib.Omega.{arith}
use lib.ListN.{length}
use Rattle.arrays.specs.Words.{at, firsts}

firsts-all : (n : ℕ) (l : List ℕ) → length l ≡ n → firsts n (λ k. at l k) ≡ l
firsts-all zero [] h = refl
firsts-all zero (x ∷ l) h = absurd (omega arith)
firsts-all (suc n) [] h = absurd (omega arith)
firsts-all (suc n) (x ∷ l) h = ap (λ (t : List ℕ). x ∷ t) (firsts-all n l (omega arith))

-- what holds of the first n values of every function holds of every array of n words
pub by-firsts : (n : ℕ) (P : List ℕ → Type 0) → ((f : ℕ → ℕ) → P (firsts n f)) → (words : List ℕ) → length words ≡ n → P words
by-firsts n P h words l = subst P (firsts-all n words l) (h (at words))

-- the first n values of a function, and more after them
pub firsts_at : (n : ℕ) (f : ℕ → ℕ) (l : List ℕ) (k : ℕ) → k < n → at (firsts n f ++ l) k ≡ f k
firsts_at zero f l k h = absurd (omega arith)
firsts_at (suc n) f l zero h = refl
firsts_at (suc n) f l (suc k) h = firsts_at n (λ j. f (suc j)) l k (omega arith)
