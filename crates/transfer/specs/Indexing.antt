-- Single transfers by where they go and what they leave in the base register (paper 01, "Single").
use Rattle.std.specs.Prelude.{◌≡◌, ℕ, ◌+◌, ◌^◌, ◌<◌, ◌≤◌, true, false, ◌≢◌, List, length, slice_index}
use Rattle.word.specs.declared.Single.{Single}
use Rattle.registers.specs.Registers.{register}
use Rattle.transfer.specs.Single.{offset_of, changed_base, address_of, with_base}

-- the registers after the base is written or not
abbrev pub after_base : Single → List ℕ → ℕ → ℕ → List ℕ
after_base i g f pc = with_base i g (changed_base i g f pc)

pub record Indexing (i : Single) (g : List ℕ) (f pc : ℕ) : Type 0 where
  -- the changed base is base plus (U) or minus offset
  pub up : i.u ≡ true → register g i.rn pc + offset_of i.offset g f < 2 ^ 32
      → changed_base i g f pc ≡ register g i.rn pc + offset_of i.offset g f
  pub down : i.u ≡ false → register g i.rn pc < 2 ^ 32 → offset_of i.offset g f ≤ register g i.rn pc
      → changed_base i g f pc + offset_of i.offset g f ≡ register g i.rn pc
  -- P=0: the address is the base, and the changed base is written whatever W says
  pub post_indexed : i.p ≡ false → address_of i g f pc ≡ register g i.rn pc
  pub post_written : i.p ≡ false → i.rn < 15 → length g ≡ 15 → slice_index (after_base i g f pc) i.rn ≡ changed_base i g f pc
  -- P=1: the address is the changed base, which is written exactly with W
  pub pre_indexed : i.p ≡ true → address_of i g f pc ≡ changed_base i g f pc
  pub pre_written : i.p ≡ true → i.w ≡ true → i.rn < 15 → length g ≡ 15 → slice_index (after_base i g f pc) i.rn ≡ changed_base i g f pc
  pub pre_kept : i.p ≡ true → i.w ≡ false → after_base i g f pc ≡ g
  -- no other register is written
  pub others : (x : ℕ) → x ≢ i.rn → slice_index (after_base i g f pc) x ≡ slice_index g x
