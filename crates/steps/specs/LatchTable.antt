-- What the latches hold after each own step of an instruction, with the registers and how the step ends: one instruction of each class, computed.
use Rattle.std.specs.Prelude.{ℕ, zero, suc, ◌/◌, ◌%◌, ◌≡◌, List, [], ◌∷◌, replicate}
use Rattle.word.specs.Reader.{read_of}
use Rattle.memory.specs.Memory.{Memory, memory_of}
use Rattle.steps.specs.declared.Phase.TheVariants.{Later}
use Rattle.steps.specs.declared.After.TheVariants.{More, Done, Jump}
use Rattle.steps.specs.declared.After.{After}
use Rattle.steps.specs.declared.Ended.TheVariants.{Executed}
use Rattle.steps.specs.declared.Latches.{Latches}
use Rattle.steps.specs.Steps.{latches, idle, step, Own, own, first_step, later_step}

-- values in R0 to R3, and 0 in the others
abbrev pub holding : ℕ → ℕ → ℕ → ℕ → List ℕ
holding r0 r1 r2 r3 = r0 ∷ r1 ∷ r2 ∷ r3 ∷ replicate 11 0

-- words as bytes, little-endian
abbrev pub bytes : List ℕ → List ℕ
bytes [] = []
bytes (w ∷ ws) = w % 256 ∷ w / 256 % 256 ∷ w / 65536 % 256 ∷ w / 16777216 ∷ bytes ws

-- a memory with three words from 10 on
abbrev pub words : ℕ → ℕ → ℕ → Memory
words w10 w14 w18 = memory_of (record { size = 28 }) (bytes (0 ∷ 0 ∷ 0 ∷ 0 ∷ w10 ∷ w14 ∷ w18 ∷ []))

-- before: R1 is the base, and the flags are 6
abbrev pub registers : List ℕ
registers = holding 0x30 0x10 2 0x33

abbrev pub memory : Memory
memory = words 0xA1 0xA2 0xA3

-- after step k + 1 of a word at 20: the counter is A+8 in step 1 and A+12 later
abbrev pub after : ℕ → ℕ → Own
after word zero = first_step (read_of word) registers 6 0x28 memory
after word (suc k) =
    let o = after word k in
    later_step (read_of word) k o.registers o.step.flags 0x2C o.step.latches o.memory

-- what a step leaves that keeps the flags
abbrev pub left : List ℕ → Latches → Memory → After → Own
left g l mem e = own g (step 6 l e) mem

pub record LatchTable : Type 0 where
  -- one step, nothing latched: MOV R0, R3; BL to A+8, the link is written
  pub moved : after 0xE1A00003 0 ≡ left (holding 0x33 0x10 2 0x33) idle memory (Done (Executed 0))
  pub branched : after 0xEB000000 0 ≡ left (0x30 ∷ 0x10 ∷ 2 ∷ 0x33 ∷ 0 ∷ 0 ∷ 0 ∷ 0 ∷ 0 ∷ 0 ∷ 0 ∷ 0 ∷ 0 ∷ 0 ∷ 0x60000024 ∷ []) idle memory (Jump 0x28)
  -- shift by register, all done in the second: MOV R0, R3, LSL R2
  pub shift_1 : after 0xE1A00213 0 ≡ left registers idle memory (More (Later 0))
  pub shift_2 : after 0xE1A00213 1 ≡ left (holding 0xCC 0x10 2 0x33) idle memory (Done (Executed 0))
  -- multiply, all done in step m+1. m=2: MLA R0, R3, R2, R1
  pub multiply_1 : after 0xE0201293 0 ≡ left registers idle memory (More (Later 0))
  pub multiply_2 : after 0xE0201293 1 ≡ left registers idle memory (More (Later 1))
  pub multiply_3 : after 0xE0201293 2 ≡ left (holding 0x76 0x10 2 0x33) idle memory (Done (Executed 2))
  -- m=4: MUL R0, R2, R3
  pub long_multiply_4 : after 0xE0000392 3 ≡ left registers idle memory (More (Later 3))
  pub long_multiply_5 : after 0xE0000392 4 ≡ left (holding 0x66 0x10 2 0x33) idle memory (Done (Executed 4))
  -- Rd=Rs, with S, which leaves C and clears Z; m is that of Rs before it: MULS R2, R3, R2
  pub own_multiply_2 : after 0xE0120293 1 ≡ left registers idle memory (More (Later 1))
  pub own_multiply_3 : after 0xE0120293 2 ≡ own (holding 0x30 0x10 0x66 0x33) (step 2 idle (Done (Executed 2))) memory
  -- load: address; read and base; register. LDR R0, [R1, 4]!
  pub load_1 : after 0xE5B10004 0 ≡ left registers (latches 0x14 0 0x14) memory (More (Later 0))
  pub load_2 : after 0xE5B10004 1 ≡ left (holding 0x30 0x14 2 0x33) (latches 0 0xA2 0) memory (More (Later 1))
  pub load_3 : after 0xE5B10004 2 ≡ left (holding 0xA2 0x14 2 0x33) idle memory (Done (Executed 0))
  -- no base to write, the whole address, and the value as it is loaded: LDR R0, [R1, 5]
  pub plain_load_1 : after 0xE5910005 0 ≡ left registers (latches 0x15 0 0) memory (More (Later 0))
  pub plain_load_2 : after 0xE5910005 1 ≡ left registers (latches 0 0xA2000000 0) memory (More (Later 1))
  pub plain_load_3 : after 0xE5910005 2 ≡ left (holding 0xA2000000 0x10 2 0x33) idle memory (Done (Executed 0))
  -- of the base, post-indexed: LDR R1, [R1], 4
  pub base_load_1 : after 0xE4911004 0 ≡ left registers (latches 0x10 0 0x14) memory (More (Later 0))
  pub base_load_2 : after 0xE4911004 1 ≡ left (holding 0x30 0x14 2 0x33) (latches 0 0xA1 0) memory (More (Later 1))
  pub base_load_3 : after 0xE4911004 2 ≡ left (holding 0x30 0xA1 2 0x33) idle memory (Done (Executed 0))
  -- into the counter: LDR R15, [R1]
  pub counter_load_3 : after 0xE591F000 2 ≡ left registers idle memory (Jump 0xA1)
  -- store: address; write and base. STR R3, [R1], 4
  pub store_1 : after 0xE4813004 0 ≡ left registers (latches 0x10 0x33 0x14) memory (More (Later 0))
  pub store_2 : after 0xE4813004 1 ≡ left (holding 0x30 0x14 2 0x33) idle (words 0x33 0xA2 0xA3) (Done (Executed 0))
  -- R15 as the flags with A+12: STR R15, [R1]
  pub counter_store_1 : after 0xE581F000 0 ≡ left registers (latches 0x10 0x6000002C 0) memory (More (Later 0))
  pub counter_store_2 : after 0xE581F000 1 ≡ left registers idle (words 0x6000002C 0xA2 0xA3) (Done (Executed 0))
  -- block load: address; first read and base; each later step writes one register and reads the next. LDMIA R1!, {R0, R2, R3}
  pub block_load_1 : after 0xE8B1000D 0 ≡ left registers (latches 0x10 0 0x1C) memory (More (Later 0))
  pub block_load_2 : after 0xE8B1000D 1 ≡ left (holding 0x30 0x1C 2 0x33) (latches 0x14 0xA1 0) memory (More (Later 1))
  pub block_load_3 : after 0xE8B1000D 2 ≡ left (holding 0xA1 0x1C 2 0x33) (latches 0x18 0xA2 0) memory (More (Later 2))
  pub block_load_4 : after 0xE8B1000D 3 ≡ left (holding 0xA1 0x1C 0xA2 0x33) (latches 0 0xA3 0) memory (More (Later 3))
  pub block_load_5 : after 0xE8B1000D 4 ≡ left (holding 0xA1 0x1C 0xA2 0xA3) idle memory (Done (Executed 0))
  -- the base in the list, and the counter: LDMIA R1!, {R0, R1, R15}
  pub base_block_load_2 : after 0xE8B18003 1 ≡ left (holding 0x30 0x1C 2 0x33) (latches 0x14 0xA1 0) memory (More (Later 1))
  pub base_block_load_3 : after 0xE8B18003 2 ≡ left (holding 0xA1 0x1C 2 0x33) (latches 0x18 0xA2 0) memory (More (Later 2))
  pub base_block_load_4 : after 0xE8B18003 3 ≡ left (holding 0xA1 0xA2 2 0x33) (latches 0 0xA3 0) memory (More (Later 3))
  pub base_block_load_5 : after 0xE8B18003 4 ≡ left (holding 0xA1 0xA2 2 0x33) idle memory (Jump 0xA3)
  -- block store: address; first write and base; one write each. The base, not lowest, is stored changed: STMIA R1!, {R0, R1, R3}
  pub block_store_1 : after 0xE8A1000B 0 ≡ left registers (latches 0x10 0x30 0x1C) memory (More (Later 0))
  pub block_store_2 : after 0xE8A1000B 1 ≡ left (holding 0x30 0x1C 2 0x33) (latches 0x14 0x1C 0) (words 0x30 0xA2 0xA3) (More (Later 1))
  pub block_store_3 : after 0xE8A1000B 2 ≡ left (holding 0x30 0x1C 2 0x33) (latches 0x18 0x33 0) (words 0x30 0x1C 0xA3) (More (Later 2))
  pub block_store_4 : after 0xE8A1000B 3 ≡ left (holding 0x30 0x1C 2 0x33) idle (words 0x30 0x1C 0x33) (Done (Executed 0))
  -- the lowest is stored as it was: STMIA R1!, {R1, R2, R3}
  pub base_block_store_1 : after 0xE8A1000E 0 ≡ left registers (latches 0x10 0x10 0x1C) memory (More (Later 0))
  pub base_block_store_2 : after 0xE8A1000E 1 ≡ left (holding 0x30 0x1C 2 0x33) (latches 0x14 2 0) (words 0x10 0xA2 0xA3) (More (Later 1))
