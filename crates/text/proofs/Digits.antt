-- How long a number's text is, and that the digits of a decimal number don't depend on how many are allowed. Assumes nothing.
use mathlib.Core.Path.{◌≡◌, refl}
use mathlib.Core.Bool.{Bool, true, false}
use mathlib.Core.List.{[], ◌∷◌, ◌++◌}
use Prim.Native.Nat.{ℕ, zero, suc, ◌+◌, ◌-◌, ◌*◌, ◌/◌, ◌%◌, ◌^◌, ◌≤◌, ◌<◌}
use native.Mathlib.Nat.{pow-suc}
use native.Mathlib.Numerals.{sub-one}
use native.Mathlib.Omega.{arith}
use borrow.Author.Tests.{lt-ltb, le-ltb}
use lib.Dec.{ltb}
use lib.ListN.{length, length-append}
use Rattle.bits.specs.Choice.{pick}
use Rattle.text.specs.Digit.{digit}
use Rattle.text.specs.Text.{hex_digits, decimal_digits, decimal}
use Rattle.text.proofs.Put.{puts}

pub hex-length : (k n : ℕ) → length (hex_digits k n) ≡ k
unfolding hex_digits
hex-length zero n = refl
hex-length (suc k) n = simp length-append (omega (arith, hex-length k (n / 16)))

pub hex-none : (k n : ℕ) → k ≡ 0 → hex_digits k n ≡ []
unfolding hex_digits
hex-none k n h = rw h

-- the last digit of a number, after the others
pub hex-last : (k n : ℕ) → (k ≡ 0 → ⊥) → hex_digits k n ≡ hex_digits (k - 1) (n / 16) ++ (digit (n % 16) ∷ [])
unfolding hex_digits
hex-last zero n h = absurd (h refl)
hex-last (suc k) n h = rw (sub-one (suc k))

pub decimal-length : (k n : ℕ) → length (decimal_digits k n) ≤ k
unfolding decimal_digits
decimal-length zero n = omega arith
decimal-length (suc k) n = simp length-append (go (ltb n 10) (decimal-length k (n / 10)))
  where
    go : (b : Bool) → length (decimal_digits k (n / 10)) ≤ k → length (pick b [] (decimal_digits k (n / 10))) + 1 ≤ suc k
    go true h = omega arith
    go false h = omega arith

-- digits that are allowed and not there make no difference
decimal-more : (k n : ℕ) → n < 10 ^ suc k → decimal_digits (suc (suc k)) n ≡ decimal_digits (suc k) n
unfolding decimal_digits
decimal-more zero n h = rw (lt-ltb n 10 h)
decimal-more (suc k) n h =
    let tens : n < 10 ^ suc k * 10 = rw pow-suc at h in
    let less : n / 10 < 10 ^ suc k = omega arith in
    rw (decimal-more k (n / 10) less)

-- a number below 10 is its one digit
pub decimal-below : (n : ℕ) → n < 10 → decimal n ≡ digit (n % 10 % 16) ∷ []
unfolding decimal_digits
decimal-below n h =
    let small : n % 10 % 16 ≡ n % 10 = omega arith in
    rw (lt-ltb n 10 h, small)

-- the last digit of another, after the others
pub decimal-tens : (n : ℕ) → 10 ≤ n → n < 2 ^ 64 → decimal n ≡ decimal (n / 10) ++ (digit (n % 10 % 16) ∷ [])
unfolding decimal_digits
decimal-tens n h fits =
    let small : n % 10 % 16 ≡ n % 10 = omega arith in
    rw (le-ltb n 10 h, decimal-more 18 (n / 10) (omega arith), small)

-- what a number's digits are, beside what is put
pub ruleset digits = (hex-none, hex-last, decimal-below, decimal-tens, puts)
