-- How long a lent memory may be (paper 01, "Numbers caused by the input"): what a start, and a read or a write of Intel HEX, refuse with 1. A run has
-- 12 and 11 for it.
use Rattle.std.specs.Prelude.{ℕ, ◌%◌, ◌≤◌, ◌≡◌, Bool, true, false, not, ◌||◌, ltb, eqb}

abbrev pub length_refused : ℕ
length_refused = 1

-- the smallest and the largest memory, in bytes
abbrev pub least_bytes : ℕ
least_bytes = 16

abbrev pub most_bytes : ℕ
most_bytes = 65536

-- 1: a length that is not a multiple of 4, or outside 16..65,536
abbrev pub bad_length : ℕ → Bool
bad_length n = not (eqb (n % 4) 0) || ltb n least_bytes || ltb most_bytes n

-- 1 does not apply, said by the conditions of the paper and not by tests: a multiple of 4, from 16 to 65,536
pub record GoodLength (n : ℕ) : Type 0 where
  pub whole : n % 4 ≡ 0
  pub least : 16 ≤ n
  pub most : n ≤ 65536

-- the tests refuse exactly the other lengths: a second road to `bad_length`
pub record Lengths (n : ℕ) : Type 0 where
  pub accepted : bad_length n ≡ false → GoodLength n
  pub refused : bad_length n ≡ true → GoodLength n → ⊥
