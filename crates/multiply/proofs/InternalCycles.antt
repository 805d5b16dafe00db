-- m, by its ranges, by its bounds, and by the length of the value.
-- Assumes nothing.
use Rattle.std.specs.Prelude.{min}
use Prim.Native.Nat.{ℕ, zero, suc, ◌+◌, ◌-◌, ◌*◌, ◌/◌, ◌^◌, ◌≤◌, ◌<◌}
use mathlib.Core.Path.{◌≡◌, refl, sym, ap, ◌∙◌, subst}
use mathlib.Core.Bool.{Bool, true, false}
use native.Mathlib.Omega.{arith}
use lib.Count.{count_leading_zeros, leading_of_zero, leading_top}
use lib.Dec.{ltb}
use lib.Pow.{pow_mono}
use borrow.Author.Tests.{ltb-true, ltb-false, lt-ltb}
use Rattle.bits.specs.Choice.{pick}
use Rattle.multiply.specs.InternalCycles.{first_above, m_of, Ranges, InternalCycles}

-- v is from 2^(2m-3) on, and below 2^(2m-1)
abbrev Within : ℕ → ℕ → Type 0
Within v m = (2 ^ (2 * m - 3) ≤ v) × (v < 2 ^ (2 * m - 1))

-- at most one m has v in its range
one-range : (v a b : ℕ) → Within v a → Within v b → a < b → ⊥
one-range v a b p q l =
    let h : 2 ^ (2 * a - 1) ≤ 2 ^ (2 * b - 3) = pow_mono (omega arith) in
    omega (arith, p.1, q.0)

module _ (v : ℕ) where
  -- where v is from the first range on and below the last's end, the m found has it
  found : (n m : ℕ) → 2 ^ (2 * m - 3) ≤ v → v < 2 ^ (2 * (m + n) - 1) → Within v (first_above n m v)
  unfolding first_above
  found zero m h l = (h, subst (λ (x : ℕ). v < 2 ^ x) (omega arith) l)
  found (suc n) m h l = go (λ f. found n (suc m) f (subst (λ (x : ℕ). v < 2 ^ x) (omega arith) l)) (ltb v (2 ^ (2 * m - 1))) refl
    where
      go : (2 ^ (2 * suc m - 3) ≤ v → Within v (first_above n (suc m) v)) → (b : Bool) → ltb v (2 ^ (2 * m - 1)) ≡ b
          → Within v (pick b m (first_above n (suc m) v))
      go next true e = (h, ltb-true _ _ e)
      go next false e = next (subst (λ (x : ℕ). 2 ^ x ≤ v) (omega arith) (ltb-false _ _ e))

  -- where v is from the last range on, the last
  last : (n m : ℕ) → 2 ^ (2 * (m + n) - 3) ≤ v → first_above n m v ≡ m + n
  unfolding first_above
  last zero m h = omega arith
  last (suc n) m h = go (last n (suc m) (subst (λ (x : ℕ). 2 ^ x ≤ v) (omega arith) h)) (ltb v (2 ^ (2 * m - 1))) refl
    where
      go : first_above n (suc m) v ≡ suc m + n → (b : Bool) → ltb v (2 ^ (2 * m - 1)) ≡ b → pick b m (first_above n (suc m) v) ≡ m + suc n
      go next true e =
          let l : 2 ^ (2 * m - 1) ≤ 2 ^ (2 * (m + suc n) - 3) = pow_mono (omega arith) in
          absurd (omega (arith, ltb-true v (2 ^ (2 * m - 1)) e))
      go next false e = next ∙ omega arith

  bounds : (n m : ℕ) → (m ≤ first_above n m v) × (first_above n m v ≤ m + n)
  unfolding first_above
  bounds zero m = (omega arith, omega arith)
  bounds (suc n) m = go (bounds n (suc m)) (ltb v (2 ^ (2 * m - 1)))
    where
      go : (suc m ≤ first_above n (suc m) v) × (first_above n (suc m) v ≤ suc m + n) → (b : Bool)
          → (m ≤ pick b m (first_above n (suc m) v)) × (pick b m (first_above n (suc m) v) ≤ m + suc n)
      go next true = (omega arith, omega arith)
      go next false = (omega arith, omega arith)

  pub m-bounds : (1 ≤ m_of v) × (m_of v ≤ 16)
  unfolding m_of
  m-bounds = bounds 15 1

  low : v < 2 → m_of v ≡ 1
  unfolding m_of first_above
  low h = rw (lt-ltb v 2 h)

  high : 2 ^ 29 ≤ v → m_of v ≡ 16
  unfolding m_of
  high h = last 15 1 h

  within : 2 ≤ v → v < 2 ^ 29 → Within v (m_of v)
  unfolding m_of first_above
  within h l = go (ltb v 2) refl
    where
      go : (b : Bool) → ltb v 2 ≡ b → Within v (pick b 1 (first_above 14 2 v))
      go true e = absurd (omega (arith, ltb-true v 2 e))
      go false e = found 14 2 h (omega arith)

  only : 2 ≤ v → v < 2 ^ 29 → (m : ℕ) → Within v m → m_of v ≡ m
  only h l m p =
      let q = within h l in
      let a : m_of v < m → ⊥ = one-range v (m_of v) m q p in
      let b : m < m_of v → ⊥ = one-range v m (m_of v) p q in
      omega (arith, a, b)

  pub ranges : Ranges v
  ranges = record {
    low = low;
    high = high;
    between = λ h l m. (λ (e : m_of v ≡ m). rw e at (within h l), only h l m);
  }

-- a value between two powers orders them
powers : (i j v : ℕ) → 2 ^ i ≤ v → v < 2 ^ j → i < j
powers i j v a b = go (ltb i j) refl
  where
    go : (t : Bool) → ltb i j ≡ t → i < j
    go true e = ltb-true i j e
    go false e =
        let h : 2 ^ j ≤ 2 ^ i = pow_mono (ltb-false i j e) in
        absurd (omega arith)

-- so many, but no more than 16
abbrev pub at_most16 : ℕ → ℕ
at_most16 m = min m 16

-- m by the place j of the value's highest bit
by-top : (v j : ℕ) → 2 ^ j ≤ v → v < 2 ^ suc j → at_most16 ((3 + j) / 2) ≡ m_of v
by-top v zero a b = sym ((ranges v).low b)
by-top v (suc i) a b = go (ltb v (2 ^ 29)) refl
  where
    q : ℕ
    q = (3 + suc i) / 2

    two : 2 ≤ v
    two = let h : 2 ^ 1 ≤ 2 ^ suc i = pow_mono {i = 1} {j = suc i} (omega arith) in omega arith

    go : (t : Bool) → ltb v (2 ^ 29) ≡ t → at_most16 q ≡ m_of v
    go true e =
        let l = ltb-true v (2 ^ 29) e in
        let s = powers (suc i) 29 v a l in
        let low : 2 ^ (2 * q - 3) ≤ 2 ^ suc i = pow_mono (omega arith) in
        let high : 2 ^ suc (suc i) ≤ 2 ^ (2 * q - 1) = pow_mono (omega arith) in
        let e : min q 16 ≡ q = omega arith in
        rw e (sym (((ranges v).between two l q).1 (omega arith, omega arith)))
    go false e =
        let l = ltb-false v (2 ^ 29) e in
        let s = powers 29 (suc (suc i)) v l b in
        let e : min q 16 ≡ 16 = omega arith in
        rw e (sym ((ranges v).high l))

-- and by its leading zeros
pub by_length : (v : ℕ) → v < 2 ^ 32 → at_most16 ((34 - count_leading_zeros 32 v) / 2) ≡ m_of v
by_length zero h = rw (leading_of_zero 32) (sym ((ranges 0).low (omega arith)))
by_length (suc n) h =
    let t = leading_top 32 (suc n) (omega arith) h in
    let e : (34 - count_leading_zeros 32 (suc n)) / 2 ≡ (3 + t.0) / 2 = ap (λ (x : ℕ). x / 2) (omega (arith, t.1)) in
    ap at_most16 e ∙ by-top (suc n) t.0 t.2 t.3

pub internal-cycles : InternalCycles
internal-cycles = ranges
