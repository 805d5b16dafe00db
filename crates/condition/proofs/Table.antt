-- A table that passes the test has the rule of the conditions, at every condition and flags.
-- Assumes nothing.
use Prim.Native.Nat.{ℕ, zero, suc, ◌+◌, ◌<◌, ◌/◌, ◌%◌, ◌^◌}
use mathlib.Core.Path.{◌≡◌, refl, ap, ◌∙◌}
use mathlib.Core.Bool.{Bool, true, false}
use mathlib.Core.List.{List, [], ◌∷◌}
use mathlib.Core.Logic.{⊎_elim}
use native.Mathlib.Nat.{add-zero, zero-add, add-suc, suc-add, le_of_suc-le-suc, not-suc-le-zero, eq-or-lt_of_le, mod-mod}
use native.Mathlib.Omega.{arith}
use lib.Dec.{T, eqb}
use lib.ListN.{length, get_or}
use lib.Pow as Pow
use lib.Pow.{mod-mod-pow}
use mir.Facts.{and_yes}
use Rattle.bits.specs.Choice.{same}
use Rattle.bits.specs.Bits.{field, bit}
use Rattle.condition.specs.Condition.{passes}
use Rattle.condition.specs.Table.{every, all, right}

same-eq : (a b : Bool) → T (same a b) → a ≡ b
same-eq true true t = refl
same-eq true false t = absurd t
same-eq false true t = absurd t
same-eq false false t = refl

-- a list that passes a test passes it at each place
every-at : (f : ℕ → ℕ → Bool) (xs : List ℕ) (i : ℕ) → T (every f i xs) → (k : ℕ) → k < length xs → T (f (i + k) (get_or xs k 0))
every-at f [] i t k h = absurd (not-suc-le-zero h)
every-at f (x ∷ xs) i t zero h = rw add-zero (and_yes (f i x) _ t).0
every-at f (x ∷ xs) i t (suc k) h =
    rw (add-suc, ← suc-add) (every-at f xs (suc i) (and_yes (f i x) _ t).1 k (le_of_suc-le-suc h))

-- a test that all numbers below n pass is passed by each
pub all-at : (f : ℕ → Bool) (n : ℕ) → T (all f n) → (k : ℕ) → k < n → T (f k)
all-at f zero t k h = absurd (not-suc-le-zero h)
all-at f (suc n) t k h =
    ⊎_elim (λ (e : k ≡ n). rw e (and_yes (f n) _ t).0) (all-at f n (and_yes (f n) _ t).1 k) (eq-or-lt_of_le (le_of_suc-le-suc h))

-- two tests that are the same at each value of the flags
pub alike : (x y : ℕ → Bool) → T (all (λ f. same (x f) (y f)) 16) → (f : ℕ) → x (f % 16) ≡ y (f % 16)
alike x y t f = same-eq _ _ (all-at (λ f. same (x f) (y f)) 16 t (f % 16) (omega arith))

-- a bit below a remainder's width is the number's
low_bit : (n j k : ℕ) → bit (n % 2 ^ ((j + 1) + k)) k ≡ bit n k
unfolding bit field
low_bit n j k =
    ap (λ (x : ℕ). eqb x 1)
    (ap (λ (x : ℕ). x % 2 ^ 1) (Pow.field n (j + 1) k) ∙ mod-mod-pow (n / 2 ^ k) j 1)

-- only four bits of the flags are looked at
pub low-flags : (c f : ℕ) → passes c (f % 16) ≡ passes c f
unfolding passes
low-flags c f = rw (low_bit f 3 0, low_bit f 2 1, low_bit f 1 2, low_bit f 0 3)

-- and four of the condition
low-condition : (c f : ℕ) → passes (c % 16) f ≡ passes c f
unfolding passes
low-condition c f = rw (mod-mod c 16)

-- a table that passes the test has the rule
pub ruled : (rows : List ℕ) → T (every right 0 rows) → (c f : ℕ) → c % 16 < length rows
    → bit (get_or rows (c % 16) 0) (f % 16) ≡ passes c f
unfolding right
ruled rows t c f h =
    alike (bit (get_or rows (c % 16) 0)) (passes (c % 16)) (rw zero-add at (every-at right rows 0 t (c % 16) h)) f
    ∙ low-flags (c % 16) f
    ∙ low-condition c f
