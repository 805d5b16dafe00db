-- A register stands among the named ones at the count of those below it, exactly where its bit is set.
-- Assumes nothing.
use Rattle.std.proofs.Common.{◌≡◌, ℕ, zero, suc, ◌+◌, ◌-◌, ◌≤◌, ◌/◌, ◌%◌, ◌^◌, ◌<◌, true, false, ◌≢◌, List, [], ◌∷◌, length, get_or, sym, subst, refl, ap, ◌∙◌, inl, inr, add-zero, zero-add, div-one, one-add, arith, shr-shr, eq-eqb, eqb-true, pow_mono, pow_pos, mod-lt}
use lib.Count.{ones, ones_in, ones_step}
use lib.Dec.{eqb}
use lib.Pow as Pow
use lib.Pow.{mod-mod-pow}
use borrow.Author.Tests.{eqb-false}
use Rattle.bits.specs.Bits.{bit, field}
use Rattle.transfer.specs.Block.{named_from, named}
use Rattle.transfer.proofs.NamedRegisters.{Parity, parity, from-odd, from-even, mod-suc, named_count, Rising, from-rising}

-- digit j above the lowest is digit j of the half
digit-suc : (x j : ℕ) → x / 2 ^ suc j % 2 ≡ x / 2 / 2 ^ j % 2
digit-suc x j =
    let e : 1 + j ≡ suc j = omega arith in
    sym (ap (λ (d : ℕ). d % 2) (rw e at (shr-shr x 1 j)))

ones-zero : ones 0 ≡ 0
unfolding ones ones_in
ones-zero = refl

ones-suc : (x j : ℕ) → ones (x % 2 ^ suc j) ≡ x % 2 + ones (x / 2 % 2 ^ j)
ones-suc x j =
    let low : x % 2 ^ suc j % 2 ≡ x % 2 = omega (arith, mod-suc x j) in
    let half : x % 2 ^ suc j / 2 ≡ x / 2 % 2 ^ j = omega (arith, mod-suc x j) in
    ones_step (x % 2 ^ suc j) ∙ rw (low, half)

-- ---- a set bit

-- register r is number k of them
abbrev pub At : ℕ → ℕ → List ℕ → Type 0
At r k xs = (k < length xs) × (get_or xs k 16 ≡ r)

from_at : (k n x j : ℕ) → j < k → x / 2 ^ j % 2 ≡ 1 → At (n + j) (ones (x % 2 ^ j)) (named_from k n x)
from_at zero n x j h e = absurd (omega arith)
from_at (suc k) n x zero h e =
    let odd : x % 2 ≡ 1 = rw div-one at e in
    let none : x % 1 ≡ 0 = omega arith in
    rw (from-odd k n x odd, none, ones-zero, add-zero n) (omega arith, refl)
from_at (suc k) n x (suc j) h e =
    go (from_at k (suc n) (x / 2) j (omega arith) (sym (digit-suc x j) ∙ e)) (parity x)
  where
    same : n + suc j ≡ suc n + j
    same = omega arith

    go : At (suc n + j) (ones (x / 2 % 2 ^ j)) (named_from k (suc n) (x / 2)) → Parity x
        → At (n + suc j) (ones (x % 2 ^ suc j)) (named_from (suc k) n x)
    go rest (inl e) = rw (from-even k n x e, ones-suc x j, e, zero-add, same) rest
    go rest (inr e) = rw (from-odd k n x e, ones-suc x j, e, same, one-add) (omega (arith, rest.0), rest.1)

pub named-at : (list x : ℕ) → x < 16 → bit list x ≡ true → At x (ones (list % 2 ^ x)) (named list)
unfolding bit field named
named-at list x h e = rw zero-add at (from_at 16 0 list x h (eqb-true _ _ e))

-- more of them stand below a higher register
pub below-rises : (list y x : ℕ) → x ≤ 16 → y < x → bit list y ≡ true → ones (list % 2 ^ y) < ones (list % 2 ^ x)
unfolding bit field
below-rises list y x h l e =
    let apart : x - y - 1 + 1 + y ≡ x = omega arith in
    let digit : list % 2 ^ x / 2 ^ y % 2 ≡ list / 2 ^ y % 2 =
    rw apart at (ap (λ (d : ℕ). d % 2) (Pow.field list (x - y - 1 + 1) y) ∙ mod-mod-pow (list / 2 ^ y) (x - y - 1) 1) in
    let low : list % 2 ^ x % 2 ^ y ≡ list % 2 ^ y = rw apart at (mod-mod-pow list (x - y - 1 + 1) y) in
    let short : list % 2 ^ x < 2 ^ x = mod-lt list (pow_pos x) in
    let at = named-at (list % 2 ^ x) y (omega arith) (ap (λ (d : ℕ). eqb d 1) digit ∙ e) in
    rw (low, ← named_count (list % 2 ^ x) (omega (arith, pow_mono h, short))) at at.0

-- ---- the register that is number j

-- its bit is set, and j are below it
abbrev pub Numbered : ℕ → ℕ → ℕ → Type 0
Numbered k x j = (d : ℕ) × (d < k) × (x / 2 ^ d % 2 ≡ 1) × (ones (x % 2 ^ d) ≡ j)

from-back : (k n x j : ℕ) → j < length (named_from k n x) → Numbered k x j
unfolding named_from
from-back zero n x j h = absurd (omega arith)
from-back (suc k) n x j h = go (λ i. from-back k (suc n) (x / 2) i) (parity x)
  where
    Rest : Type 0
    Rest = (i : ℕ) → i < length (named_from k (suc n) (x / 2)) → Numbered k (x / 2) i

    up : (i : ℕ) → x % 2 + i ≡ j → Numbered k (x / 2) i → Numbered (suc k) x j
    up i e r = (suc r.0, omega (arith, r.1), digit-suc x r.0 ∙ r.2, ones-suc x r.0 ∙ rw r.3 e)

    odd : Rest → (i : ℕ) → j ≡ i → x % 2 ≡ 1 → Numbered (suc k) x j
    odd rest zero q e =
        let none : x % 1 ≡ 0 = omega arith in
        (0, omega arith, rw div-one e, rw none (ones-zero ∙ sym q))
    odd rest (suc i) q e = up i (omega arith) (rest i (omega (arith, rw (from-odd k n x e) at h)))

    go : Rest → Parity x → Numbered (suc k) x j
    go rest (inl e) = up j (omega arith) (rest j (rw (from-even k n x e) at h))
    go rest (inr e) = odd rest j refl e

pub named-back : (list j : ℕ) → j < length (named list) → (x : ℕ) × (x < 16) × (bit list x ≡ true) × (ones (list % 2 ^ x) ≡ j)
unfolding bit field named
named-back list j h = let r = from-back 16 0 list j h in (r.0, r.1, eq-eqb _ _ r.2, r.3)

-- ---- a bit that is not set

abbrev pub Absent : ℕ → List ℕ → Type 0
Absent r [] = Unit {0}
Absent r (x ∷ xs) = (r ≢ x) × Absent r xs

pub rising-absent : (m n r : ℕ) (xs : List ℕ) → r < n → Rising m n xs → Absent r xs
rising-absent m n r [] h u = tt
rising-absent m n r (x ∷ xs) h u = (λ e. omega (arith, u.0), rising-absent m (suc x) r xs (omega (arith, u.0)) u.2)

from-absent : (k n x j : ℕ) → j < k → x / 2 ^ j % 2 ≢ 1 → Absent (n + j) (named_from k n x)
from-absent zero n x j h e = absurd (omega arith)
from-absent (suc k) n x zero h e =
    let even : x % 2 ≡ 0 = omega (arith, div-one x) in
    rw (from-even k n x even, add-zero n) (rising-absent (suc n + k) (suc n) n (named_from k (suc n) (x / 2)) (omega arith) (from-rising k (suc n) (x / 2)))
from-absent (suc k) n x (suc j) h e =
    go (from-absent k (suc n) (x / 2) j (omega arith) (λ d. e (digit-suc x j ∙ d))) (parity x)
  where
    same : suc n + j ≡ n + suc j
    same = omega arith

    go : Absent (suc n + j) (named_from k (suc n) (x / 2)) → Parity x → Absent (n + suc j) (named_from (suc k) n x)
    go rest (inl e) = rw (from-even k n x e) (subst (λ m. Absent m (named_from k (suc n) (x / 2))) same rest)
    go rest (inr e) = rw (from-odd k n x e) (λ d. omega arith, subst (λ m. Absent m (named_from k (suc n) (x / 2))) same rest)

pub named-absent : (list x : ℕ) → x < 16 → bit list x ≡ false → Absent x (named list)
unfolding bit field named
named-absent list x h e = rw zero-add at (from-absent 16 0 list x h (eqb-false _ _ e))
