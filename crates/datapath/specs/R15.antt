-- The words of R15, by their bits.
use Rattle.std.specs.Prelude.{◌≡◌, ℕ, ◌%◌, ◌^◌, ◌<◌, false}
use Rattle.bits.specs.Bits.{field, bit}
use Rattle.datapath.specs.Counter.{r15_word}

-- at any flags f, of which four bits count, and any counter value a, a multiple of 4 or not
pub record R15 : Type 0 where
  pub word : (f a : ℕ) → r15_word f a < 2 ^ 32
  -- flags in 31..28
  pub flags : (f a : ℕ) → field (r15_word f a) 28 4 ≡ f % 16
  -- bits 25..2 are those of the counter value
  pub counter : (f a : ℕ) → field (r15_word f a) 2 24 ≡ field a 2 24
  -- bits 27, 26, 1, 0 are 0
  pub bit_27 : (f a : ℕ) → bit (r15_word f a) 27 ≡ false
  pub bit_26 : (f a : ℕ) → bit (r15_word f a) 26 ≡ false
  pub bit_1 : (f a : ℕ) → bit (r15_word f a) 1 ≡ false
  pub bit_0 : (f a : ℕ) → bit (r15_word f a) 0 ≡ false
