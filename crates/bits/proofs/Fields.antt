-- The laws of fields and bits.
-- Assumes nothing.
use mathlib.Core.Path.{◌≡◌, refl, sym, ap, ◌∙◌}
use mathlib.Core.Bool.{Bool, true, false}
use mathlib.Core.Logic.{◌≢◌}
use Prim.Native.Nat.{ℕ, ◌*◌, ◌/◌, ◌%◌, ◌^◌, ◌≤◌, ◌<◌}
use native.Mathlib.Nat.{div-eq_of_lt, one-mul, mod-eq_of_lt, mod-lt, lt_of_lt_of_le}
use native.Mathlib.Omega.{arith}
use Rattle.std.specs.Prelude.{Option, None, Some, unwrap_or}
use Rattle.std.specs.Option.{SomeIff}
use lib.Dec.{eqb}
use lib.Pow.{pow_pos, pow-lt, pow_mono}
use borrow.Author.Tests.{eqb-true, eqb-false}
use Rattle.bits.specs.Bits.{field, bit, num}

-- 1 << k is 2 ^ k
pub shl_one : (k : ℕ) → k < 32 → (1 * 2 ^ k) % 2 ^ 32 ≡ 2 ^ k
shl_one k h = ap (λ (x : ℕ). x % 2 ^ 32) (one-mul (2 ^ k)) ∙ mod-eq_of_lt (pow-lt h)

-- a word has no bit from 32 on
pub word_lt : (w k : ℕ) → w < 2 ^ 32 → 32 ≤ k → w < 2 ^ k
word_lt w k h l = lt_of_lt_of_le h (pow_mono l)

-- moved right, and 0 where there are too many places
pub shifted-or_zero : (o : Option ℕ) (w k : ℕ) → w < 2 ^ 32 → SomeIff o (k < 32) (w / 2 ^ k) → unwrap_or o 0 ≡ w / 2 ^ k
shifted-or_zero None w k h n = sym (div-eq_of_lt (word_lt w k h (omega (arith, n))))
shifted-or_zero (Some x) w k h p = p.1

pub field_lt : (w low k : ℕ) → field w low k < 2 ^ k
unfolding field
field_lt w low k = mod-lt (w / 2 ^ low) (pow_pos k)

-- a bit's number, and a number's bit
pub num-bit : (w j : ℕ) → num (bit w j) ≡ field w j 1
unfolding bit
num-bit w j = go (eqb (field w j 1) 1) refl
  where
    go : (b : Bool) → eqb (field w j 1) 1 ≡ b → num b ≡ field w j 1
    go true e = sym (eqb-true _ _ e)
    go false e = let n : field w j 1 ≢ 1 = eqb-false _ _ e in omega (arith, field_lt w j 1)

pub bit-num : (b : Bool) → eqb (num b) 1 ≡ b
bit-num true = refl
bit-num false = refl

-- a word whose field is a bit's number has that bit
pub bit-of : (w j : ℕ) (b : Bool) → field w j 1 ≡ num b → bit w j ≡ b
unfolding bit
bit-of w j b e = rw e (bit-num b)
