-- The conditions by what they are for: after a comparison they tell the order of the two words. The definitions say them by flags.
use Rattle.std.specs.Prelude.{ℕ, ◌+◌, ◌*◌, ◌^◌, ◌<◌, ◌≡◌, Bool, true, false, not, ltb, leb, eqb, pos, ◌+ℤ◌, ◌-ℤ◌}
use Rattle.std.specs.Int.Signed.{le_z, lt_z}
use Rattle.bits.specs.Bits.{num}
use Rattle.datapath.specs.declared.Computed.{Computed}
use Rattle.datapath.specs.Alu.{sum, difference, flags_of}
use Rattle.datapath.specs.Signed.{signed_value, in_range}
use Rattle.condition.specs.Condition.{passes}

-- the flags that a difference a - b leaves
abbrev pub compared : ℕ → ℕ → ℕ
compared a b = flags_of (difference a b true)

pub record Order (a b : ℕ) : Type 0 where
  -- EQ, NE: they are equal, or not
  pub eq_passes : passes 0 (compared a b) ≡ eqb a b
  pub ne_passes : passes 1 (compared a b) ≡ not (eqb a b)
  -- CS, CC: b ≤ a, a < b
  pub cs_passes : passes 2 (compared a b) ≡ leb b a
  pub cc_passes : passes 3 (compared a b) ≡ ltb a b
  -- HI, LS: b < a, a ≤ b
  pub hi_passes : passes 8 (compared a b) ≡ ltb b a
  pub ls_passes : passes 9 (compared a b) ≡ leb a b
  -- GE, LT, GT, LE: the same four of the signed values
  pub ge_passes : passes 10 (compared a b) ≡ le_z (signed_value b) (signed_value a)
  pub lt_passes : passes 11 (compared a b) ≡ lt_z (signed_value a) (signed_value b)
  pub gt_passes : passes 12 (compared a b) ≡ lt_z (signed_value b) (signed_value a)
  pub le_passes : passes 13 (compared a b) ≡ le_z (signed_value a) (signed_value b)

pub record Comparisons : Type 0 where
  -- after a difference of words
  pub order : (a b : ℕ) → a < 2 ^ 32 → b < 2 ^ 32 → Order a b
  -- MI, PL: the signed result is below 0, or not
  pub mi_passes : (r : Computed) → r.value < 2 ^ 32 → passes 4 (flags_of r) ≡ lt_z (signed_value r.value) (pos 0)
  pub pl_passes : (r : Computed) → r.value < 2 ^ 32 → passes 5 (flags_of r) ≡ le_z (pos 0) (signed_value r.value)
  -- VS: the signed sum or difference is out of range; VC, the odd one after it: it is not
  pub vs_sum : (a b : ℕ) (c : Bool) → a < 2 ^ 32 → b < 2 ^ 32
      → passes 6 (flags_of (sum a b c)) ≡ not (in_range (signed_value a +ℤ signed_value b +ℤ pos (num c)))
  pub vs_difference : (a b : ℕ) (c : Bool) → a < 2 ^ 32 → b < 2 ^ 32
      → passes 6 (flags_of (difference a b c)) ≡ not (in_range (signed_value a -ℤ signed_value b -ℤ pos (num (not c))))
  -- each odd one up to 13 negates the one before
  pub odd_negates : (k f : ℕ) → k < 7 → passes (2 * k + 1) f ≡ not (passes (2 * k) f)
  -- always, never
  pub always_passes : (f : ℕ) → passes 14 f ≡ true
  pub never_passes : (f : ℕ) → passes 15 f ≡ false
