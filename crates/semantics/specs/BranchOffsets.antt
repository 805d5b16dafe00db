-- A branch by its signed offset (paper 01, "Branch"): the 24 bits from 2^23 on stand for an offset that is 2^24 less.
use Rattle.std.specs.Prelude.{◌≡◌, ℕ, ◌+◌, ◌-◌, ◌*◌, ◌%◌, ◌^◌, ◌<◌, ◌≤◌, true, false, ◌≢◌, length, slice_index}
use Rattle.word.specs.declared.Branch.{Branch}
use Rattle.word.specs.declared.Instruction.{Instruction}
use Rattle.registers.specs.State.{State}
use Rattle.semantics.specs.Effect.{Effect, effect_of}
use Rattle.semantics.specs.Duration.{next_address}

abbrev pub branch_effect : Branch → State → Effect
branch_effect i s = effect_of (Instruction.Branch i) s

-- the address of the next instruction after a branch at a
abbrev pub branches_to : Branch → State → ℕ
branches_to i s = next_address s.a (branch_effect i s).out.goes

-- a branch at a
pub record Branches (i : Branch) (s : State) : Type 0 where
  -- counter values are modulo 2^26
  pub below : branches_to i s < 2 ^ 26
  -- to A+8+4×offset
  pub forward : i.offset < 2 ^ 23 → branches_to i s ≡ (s.a + 8 + 4 * i.offset) % 2 ^ 26
  -- and back: as far below A+8 as the offset is below 0
  pub back : 2 ^ 23 ≤ i.offset → i.offset < 2 ^ 24 → (branches_to i s + 4 * (2 ^ 24 - i.offset)) % 2 ^ 26 ≡ (s.a + 8) % 2 ^ 26
  -- link: R14 = flags with A+4
  pub linked : i.link ≡ true → length s.registers ≡ 15 → slice_index (branch_effect i s).out.registers 14 ≡ s.status * 2 ^ 28 + (s.a + 4) % 2 ^ 26
  -- and nothing else changes
  pub others : (r : ℕ) → r ≢ 14 → slice_index (branch_effect i s).out.registers r ≡ slice_index s.registers r
  pub unlinked : i.link ≡ false → (branch_effect i s).out.registers ≡ s.registers
  pub flags : (branch_effect i s).out.flags ≡ s.status
  pub memory : (branch_effect i s).memory ≡ s.memory

-- at every word's address, at every value of the flags
abbrev pub BranchOffsets : Type 0
BranchOffsets = (i : Branch) (s : State) → s.status < 16 → s.a % 4 ≡ 0 → Branches i s
