-- Integers as differences of numbers, which carries their sums and their order to numbers.
-- Assumes nothing.
use Rattle.std.proofs.Common.{◌≡◌, ℕ, zero, suc, ◌+◌, ◌-◌, ◌%◌, ◌^◌, ◌<◌, ◌≤◌, Bool, true, false, cond, not, ltb, ℤ, pos, negsuc, ◌+ℤ◌, ◌-ℤ◌, neg_ℤ, sym, refl, ap, ◌∙◌, arith, ltb-false, ltb-true, le-leb}
use mathlib.Core.Bool.{not-not}
use lib.IntN.{sub_ℕ}
use lib.Signed.{le_z, lt_z}
use borrow.Author.Tests.{lt-leb}
use Rattle.bits.specs.Choice.{pick}
use Rattle.bits.proofs.Tests.{not-leb}
use Rattle.datapath.specs.Signed.{signed_value, in_range}

-- z is p - q
abbrev pub Is : ℤ → ℕ → ℕ → Type 0
Is (pos n) p q = n + q ≡ p
Is (negsuc n) p q = p + suc n ≡ q

pub is-sub : (m n p q : ℕ) → m + q ≡ p + n → Is (sub_ℕ m n) p q
is-sub m n p q e = go (ltb m n) refl
  where
    go : (t : Bool) → ltb m n ≡ t → Is (cond t (negsuc (n - suc m)) (pos (m - n))) p q
    go true t = let h : m < n = ltb-true m n t in omega arith
    go false t = let h : n ≤ m = ltb-false m n t in omega arith

pub is_sum : (y z : ℤ) (p q r s : ℕ) → Is y p q → Is z r s → Is (y +ℤ z) (p + r) (q + s)
is_sum (pos m) (pos n) p q r s i j = omega arith
is_sum (pos m) (negsuc n) p q r s i j = is-sub m (suc n) (p + r) (q + s) (omega arith)
is_sum (negsuc m) (pos n) p q r s i j = is-sub n (suc m) (p + r) (q + s) (omega arith)
is_sum (negsuc m) (negsuc n) p q r s i j = omega arith

is-negated : (z : ℤ) (p q : ℕ) → Is z p q → Is (neg_ℤ z) q p
is-negated (pos zero) p q i = omega arith
is-negated (pos (suc n)) p q i = omega arith
is-negated (negsuc n) p q i = omega arith

pub is-difference : (y z : ℤ) (p q r s : ℕ) → Is y p q → Is z r s → Is (y -ℤ z) (p + s) (q + r)
is-difference y z p q r s i j = is_sum y (neg_ℤ z) p q s r i (is-negated z r s j)

-- the order
pub at_most : (y z : ℤ) (p q r s : ℕ) → Is y p q → Is z r s → p + s ≤ r + q → le_z y z ≡ true
at_most (pos m) (pos n) p q r s i j h = le-leb m n (omega arith)
at_most (pos m) (negsuc n) p q r s i j h = absurd (omega arith)
at_most (negsuc m) (pos n) p q r s i j h = refl
at_most (negsuc m) (negsuc n) p q r s i j h = le-leb n m (omega arith)

pub not-at-most : (y z : ℤ) (p q r s : ℕ) → Is y p q → Is z r s → r + q < p + s → le_z y z ≡ false
not-at-most (pos m) (pos n) p q r s i j h = lt-leb m n (omega arith)
not-at-most (pos m) (negsuc n) p q r s i j h = refl
not-at-most (negsuc m) (pos n) p q r s i j h = absurd (omega arith)
not-at-most (negsuc m) (negsuc n) p q r s i j h = lt-leb n m (omega arith)

pub not_le_z : (y z : ℤ) → not (le_z z y) ≡ lt_z y z
not_le_z (pos m) (pos n) = not-leb m n
not_le_z (pos m) (negsuc n) = refl
not_le_z (negsuc m) (pos n) = refl
not_le_z (negsuc m) (negsuc n) = not-leb n m

pub not_lt_z : (y z : ℤ) → not (lt_z z y) ≡ le_z y z
not_lt_z y z = ap not (sym (not_le_z z y)) ∙ not-not (le_z y z)

-- the range
module _ (z : ℤ) (p q : ℕ) (i : Is z p q) where
  low-is : Is (sub_ℕ 0 (2 ^ 31)) 0 (2 ^ 31)
  low-is = is-sub 0 (2 ^ 31) 0 (2 ^ 31) refl

  from_low : q ≤ p + 2 ^ 31 → le_z (sub_ℕ 0 (2 ^ 31)) z ≡ true
  from_low h = at_most (sub_ℕ 0 (2 ^ 31)) z 0 (2 ^ 31) p q low-is i (omega arith)

  pub inside : q ≤ p + 2 ^ 31 → p < q + 2 ^ 31 → false ≡ not (in_range z)
  inside h k = rw (from_low h, ← (not_le_z z (pos (2 ^ 31))), not-at-most (pos (2 ^ 31)) z (2 ^ 31) 0 p q refl i (omega arith))

  pub below : p + 2 ^ 31 < q → true ≡ not (in_range z)
  below h = rw (not-at-most (sub_ℕ 0 (2 ^ 31)) z 0 (2 ^ 31) p q low-is i (omega arith))

  pub above : q + 2 ^ 31 ≤ p → true ≡ not (in_range z)
  above h = rw (from_low (omega arith), ← (not_le_z z (pos (2 ^ 31))), at_most (pos (2 ^ 31)) z (2 ^ 31) 0 p q refl i (omega arith))

-- a word's signed value is 2^31 less than this number
abbrev pub raised : ℕ → ℕ
raised w = (w + 2 ^ 31) % 2 ^ 32

pub signed_is : (w : ℕ) → w < 2 ^ 32 → Is (signed_value w) (raised w) (2 ^ 31)
signed_is w h = go (ltb w (2 ^ 31)) refl
  where
    go : (t : Bool) → ltb w (2 ^ 31) ≡ t → Is (pick t (pos w) (sub_ℕ w (2 ^ 32))) (raised w) (2 ^ 31)
    go true e = let l : w < 2 ^ 31 = ltb-true w (2 ^ 31) e in omega arith
    go false e =
        let l : 2 ^ 31 ≤ w = ltb-false w (2 ^ 31) e in
        is-sub w (2 ^ 32) (raised w) (2 ^ 31) (omega arith)
