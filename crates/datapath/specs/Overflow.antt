-- V by the integers: a result that is out of range. The definitions say it by signs.
use Rattle.std.specs.Prelude.{◌≡◌, ℕ, ◌^◌, ◌<◌, Bool, not, pos, ◌+ℤ◌, ◌-ℤ◌}
use Rattle.bits.specs.Bits.{num}
use Rattle.datapath.specs.Alu.{sum, difference}
use Rattle.datapath.specs.Signed.{signed_value, in_range}

pub record Overflow : Type 0 where
  -- V of a sum: the signed sum, with C where it is added, is out of range
  pub of_sum : (a b : ℕ) (c : Bool) → a < 2 ^ 32 → b < 2 ^ 32
      → (sum a b c).overflow ≡ not (in_range (signed_value a +ℤ signed_value b +ℤ pos (num c)))
  -- V of a difference: the signed difference, with 1-C more taken off, is out of range
  pub of_difference : (a b : ℕ) (c : Bool) → a < 2 ^ 32 → b < 2 ^ 32
      → (difference a b c).overflow ≡ not (in_range (signed_value a -ℤ signed_value b -ℤ pos (num (not c))))
