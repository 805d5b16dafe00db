-- 24 and 25 of an instruction that breaks no rule, by the words that it moves (paper 01, "Numbers caused by the state").
use Rattle.std.specs.Prelude.{ℕ, ◌+◌, ◌*◌, ◌/◌, ◌%◌, ◌^◌, ◌≤◌, ◌<◌, ◌≡◌, Bool, true, false, not, [], ◌∷◌, ◌⊎◌, ◌↔◌, replicate, Some}
use Rattle.word.specs.declared.Instruction.{Instruction}
use Rattle.word.specs.Reader.{is_other}
use Rattle.datapath.specs.Counter.{ahead}
use Rattle.memory.specs.Memory.{memory_of}
use Rattle.registers.specs.State.{State, state}
use Rattle.stops.specs.Rules.{rule_broken}
use Rattle.stops.specs.Stops.{stop_of, stop_for}
use Rattle.transfer.specs.Single as single
use Rattle.transfer.specs.Block as block

-- how many words are moved
abbrev pub moved_count : Instruction → ℕ
moved_count (Instruction.Processing i) = 0
moved_count (Instruction.Single i) = 1
moved_count (Instruction.Block i) = block.count i
moved_count (Instruction.Branch i) = 0
moved_count (Instruction.Multiply i) = 0
moved_count (Instruction.Other word) = 0

-- the first address moved
abbrev pub first_moved : Instruction → State → ℕ
first_moved (Instruction.Processing i) s = 0
first_moved (Instruction.Single i) s = single.address_of i s.registers s.status (ahead s.a 8)
first_moved (Instruction.Block i) s = block.lowest_address i s.registers
first_moved (Instruction.Branch i) s = 0
first_moved (Instruction.Multiply i) s = 0
first_moved (Instruction.Other word) s = 0

-- it stores what it moves
abbrev pub storing : Instruction → Bool
storing (Instruction.Processing i) = false
storing (Instruction.Single i) = not i.l
storing (Instruction.Block i) = not i.l
storing (Instruction.Branch i) = false
storing (Instruction.Multiply i) = false
storing (Instruction.Other word) = false

-- some address moved is such: the first, or one that follows 4 apart, modulo 2^32
abbrev pub Moved : Instruction → State → (ℕ → Type 0) → Type 0
Moved i s Such = (k : ℕ) × (k < moved_count i) × Such ((first_moved i s + 4 * k) % 2 ^ 32)

-- a moved address not below the length
abbrev pub Outside : Instruction → State → Type 0
Outside i s = Moved i s (λ at. s.memory.board.size ≤ at)

-- a stored word, or the word of a stored byte, at A+4 or A+8
abbrev pub Fetched : Instruction → State → Type 0
Fetched i s = (storing i ≡ true) × Moved i s (λ at. (at / 4 ≡ ahead s.a 4 / 4) ⊎ (at / 4 ≡ ahead s.a 8 / 4))

-- of an instruction that breaks no rule, in a memory of any length allowed
pub record StopOrder (i : Instruction) (s : State) : Type 0 where
  pub is_24 : (stop_of i s ≡ 24) ↔ Outside i s
  pub is_25 : (stop_of i s ≡ 25) ↔ ((Outside i s → ⊥) × Fetched i s)
  pub is_none : (stop_of i s ≡ 0) ↔ ((Outside i s → ⊥) × (Fetched i s → ⊥))

abbrev pub Ordered : Type 0
Ordered =
    (i : Instruction) (s : State) → is_other i ≡ false → rule_broken i s ≡ 0 → first_moved i s < 2 ^ 32 → s.memory.board.size ≤ 65536
    → StopOrder i s

-- a block at 20 with a value in R1
abbrev pub block_at : ℕ → ℕ → ℕ → ℕ → ℕ
block_at word r1 size f = stop_for (Some word) (state (0 ∷ r1 ∷ replicate 13 0) f 0x20 (memory_of (record { size = size }) []))

-- a block that meets both stops with 24
pub record MarkedOrder : Type 0 where
  -- STMIA R1, {R0,R2} at R1=24: 24 is fetched, and 28 is outside
  pub up : (f : ℕ) → block_at 0xE8810005 0x24 0x28 f ≡ 24
  pub up_inside : (f : ℕ) → block_at 0xE8810005 0x24 0x2C f ≡ 25
  -- STMDB R1, {R0,R2} at R1=2C moves the same two words
  pub down : (f : ℕ) → block_at 0xE9010005 0x2C 0x28 f ≡ 24
  pub down_inside : (f : ℕ) → block_at 0xE9010005 0x2C 0x2C f ≡ 25
  -- at R1=20 the second word, 24, is both fetched and outside, and the first is neither
  pub second_both : (f : ℕ) → block_at 0xE8810005 0x20 0x24 f ≡ 24
  -- at R1=24 in 24 bytes both words are both
  pub all_both : (f : ℕ) → block_at 0xE8810005 0x24 0x24 f ≡ 24
  -- LDMIA R1, {R0,R2} meets 24 alone
  pub load : (f : ℕ) → block_at 0xE8910005 0x24 0x28 f ≡ 24
  pub load_inside : (f : ℕ) → block_at 0xE8910005 0x24 0x2C f ≡ 0
