-- The marked values of instructions (paper 01, "Marked values, proved together"), each of a whole instruction word; with them
-- the base after a post-indexed load, and the cycle of a failed condition.
use Rattle.std.specs.Prelude.{◌≡◌, ℕ, ◌+◌, true, List, [], ◌∷◌, length, replicate, Some}
use Rattle.bits.specs.Bits.{bit, num}
use Rattle.datapath.specs.Alu.{carry_of, overflow_of}
use Rattle.memory.specs.Memory.{Memory, memory_of, read_word}
use Rattle.registers.specs.State.{state}
use Rattle.registers.specs.Registers.{register}
use Rattle.semantics.specs.Perform.{Result, performs}

-- bytes on a board of their size
abbrev pub lent : List ℕ → Memory
lent mem = memory_of (record { size = length mem }) mem

-- a word at an address, with a value in R1 and 0 in the other registers
abbrev pub performed_at : ℕ → ℕ → ℕ → ℕ → List ℕ → Result
performed_at a word r1 f mem = performs (Some word) (state (0 ∷ r1 ∷ replicate 13 0) f a (lent mem))

-- a memory of zeros, long enough for every address below
abbrev pub zeros : List ℕ
zeros = replicate 0x110 0

-- a word at 0, with values in R1 and R2 and 0 in the other registers
abbrev pub processed_word : ℕ → ℕ → ℕ → ℕ → Result
processed_word word r1 r2 f = performs (Some word) (state (0 ∷ r1 ∷ r2 ∷ replicate 12 0) f 0 (lent zeros))

-- R0 and the flags afterwards
pub record Leaves (r : Result) (r0 f : ℕ) : Type 0 where
  pub result : register r.registers 0 0 ≡ r0
  pub flags : r.performed.flags ≡ f

-- V, which a logical operation keeps
abbrev pub kept_v : ℕ → ℕ
kept_v f = num (overflow_of f)

-- at any flags f where none are said
pub record Marked : Type 0 where
  -- SUBS 1-1: flags 6. 0-1: 8. 80000000-1: 3. SUBS R0, R1, R2
  pub subs_equal : (f : ℕ) → Leaves (processed_word 0xE0510002 1 1 f) 0 6
  pub subs_borrow : (f : ℕ) → Leaves (processed_word 0xE0510002 0 1 f) 0xFFFFFFFF 8
  pub subs_overflow : (f : ℕ) → Leaves (processed_word 0xE0510002 0x80000000 1 f) 0x7FFFFFFF 3
  -- ADDS 7FFFFFFF+1: 9. ADDS R0, R1, R2
  pub adds_overflow : (f : ℕ) → Leaves (processed_word 0xE0910002 0x7FFFFFFF 1 f) 0x80000000 9
  -- LSR 0 on 80000001: 0, carry 1. MOVS R0, R1, LSR 0: Z and C
  pub lsr_0 : (f : ℕ) → Leaves (processed_word 0xE1B00021 0x80000001 0 f) 0 (6 + kept_v f)
  -- ROR 0 on 2, C=1: 80000001, carry 0. MOVS R0, R1, ROR 0: N
  pub ror_0 : (f : ℕ) → carry_of f ≡ true → Leaves (processed_word 0xE1B00061 2 0 f) 0x80000001 (8 + kept_v f)
  -- LSL by register of 1: by 20 carry 1, by 21 carry 0, both 0. MOVS R0, R1, LSL R2: Z and C; Z
  pub lsl_20 : (f : ℕ) → Leaves (processed_word 0xE1B00211 1 0x20 f) 0 (6 + kept_v f)
  pub lsl_21 : (f : ℕ) → Leaves (processed_word 0xE1B00211 1 0x21 f) 0 (4 + kept_v f)
  -- Constant 4FF: FF000000, carry 1. MOVS R0, 4FF: N and C
  pub constant_4FF : (f : ℕ) → Leaves (processed_word 0xE3B004FF 0 0 f) 0xFF000000 (10 + kept_v f)
  -- Load at 1 from bytes 11 22 33 44: 11443322. LDR R0, [R1]
  pub load_1 : (f : ℕ) → register (performed_at 0 0xE5910000 1 f (0x11 ∷ 0x22 ∷ 0x33 ∷ 0x44 ∷ [])).registers 0 0 ≡ 0x11443322
  -- the changed base is written if P=0. LDR R0, [R1], 4
  pub post_indexed : (f : ℕ) → register (performed_at 0 0xE4910004 0x100 f zeros).registers 1 0 ≡ 0x104
  -- R1=100, base+ with W: list R1,R2 stores 100 first; R0,R1 stores 108 second. STMIA R1!
  pub lowest_base : (f : ℕ) → read_word (performed_at 0 0xE8A10006 0x100 f zeros).memory 0x100 ≡ 0x100
  pub later_base : (f : ℕ) → read_word (performed_at 0 0xE8A10003 0x100 f zeros).memory 0x104 ≡ 0x108
  -- At 20, flags 6: link 60000024, R15 stored 6000002C. BL; STR R15, [R1] and STMIA R1, {R15}
  pub link : register (performed_at 0x20 0xEB000000 0 6 zeros).registers 14 0 ≡ 0x60000024
  pub stored : read_word (performed_at 0x20 0xE581F000 0 6 zeros).memory 0 ≡ 0x6000002C
  pub block_stored : read_word (performed_at 0x20 0xE8818000 0 6 zeros).memory 0 ≡ 0x6000002C
  -- Load of R0,R2,R15: 7 cycles. LDMIA R1
  pub cycles : (f : ℕ) → (performed_at 0 0xE8918005 0 f zeros).performed.cycles ≡ 7
  -- a failed condition: 1. BNE at Z=1
  pub skipped : (f : ℕ) → bit f 2 ≡ true → (performed_at 0 0x1AFFFFFD 0 f zeros).performed.cycles ≡ 1
