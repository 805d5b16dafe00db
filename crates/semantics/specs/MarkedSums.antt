-- The sums of marked instructions (paper 02, §3), each of a whole instruction word: a second road to the table, which tells N from S.
use Rattle.std.specs.Prelude.{◌≡◌, ℕ, ◌∷◌, replicate, Some, None}
use Rattle.registers.specs.State.{state}
use Rattle.semantics.specs.declared.Sums.{Sums}
use Rattle.semantics.specs.Marked.{lent, zeros}
use Rattle.semantics.specs.Sums.{nsi, no_sums, ticks, performs_sums}

-- what a word at 0 adds, with 100 in R1 and a value in R2, and Z set: its sums and its ticks
pub record Adds (word r2 : ℕ) (added : Sums) (t : ℕ) : Type 0 where
  pub sums : performs_sums (Some word) (state (0 ∷ 0x100 ∷ r2 ∷ replicate 12 0) 4 0 (lent zeros)) ≡ added
  pub ticks : ticks added ≡ t

pub record MarkedSums : Type 0 where
  -- a failed condition, whatever the class: MOVNE R0, R1; BNE; STMNEIA R1, {R0, R2, R3}; LDRNE R15, [R1]
  pub failed : Adds 0x11A00001 6 (nsi 0 1 0) 1
  pub failed_branch : Adds 0x1AFFFFFD 6 (nsi 0 1 0) 1
  pub failed_block : Adds 0x1881000D 6 (nsi 0 1 0) 1
  pub failed_load : Adds 0x1591F000 6 (nsi 0 1 0) 1
  -- processing: SUBS R0, R1, R2; MOV R0, R1, LSL R2
  pub processing : Adds 0xE0510002 6 (nsi 0 1 0) 1
  pub shift_by_register : Adds 0xE1A00211 6 (nsi 0 1 1) 2
  -- with a stored counter: MOV R15, R1; MOV R15, R1, LSL R2. CMP with Rd=15 stores none: CMPS R1, R2
  pub counter : Adds 0xE1A0F001 6 (nsi 1 2 0) 4
  pub counter_shifted : Adds 0xE1A0F211 6 (nsi 1 2 1) 5
  pub flags_alone : Adds 0xE151F002 6 (nsi 0 1 0) 1
  -- load: LDR R0, [R1]; LDRB R0, [R1]; LDR R15, [R1]
  pub load : Adds 0xE5910000 6 (nsi 1 1 1) 4
  pub load_byte : Adds 0xE5D10000 6 (nsi 1 1 1) 4
  pub load_counter : Adds 0xE591F000 6 (nsi 2 2 1) 7
  -- store: STR R0, [R1]; of R15, which stores no counter: STR R15, [R1]
  pub store : Adds 0xE5810000 6 (nsi 2 0 0) 4
  pub store_r15 : Adds 0xE581F000 6 (nsi 2 0 0) 4
  -- block load: LDMIA R1, of R0; of R0, R2, R3; of R0, R2, R15
  pub block_load_1 : Adds 0xE8910001 6 (nsi 1 1 1) 4
  pub block_load_3 : Adds 0xE891000D 6 (nsi 1 3 1) 6
  pub block_load_counter : Adds 0xE8918005 6 (nsi 2 4 1) 9
  -- block store: STMIA R1, of R0; of R0, R2, R3; of R0, R2, R15
  pub block_store_1 : Adds 0xE8810001 6 (nsi 2 0 0) 4
  pub block_store_3 : Adds 0xE881000D 6 (nsi 2 2 0) 6
  pub block_store_r15 : Adds 0xE8818005 6 (nsi 2 2 0) 6
  -- branch: B; BL
  pub branch : Adds 0xEA000000 6 (nsi 1 2 0) 4
  pub branch_linked : Adds 0xEB000000 6 (nsi 1 2 0) 4
  -- multiply by 6, of m=2, and by FFFFFFFF, of m=16: MUL R0, R1, R2. Rd=Rs: MUL R2, R1, R2 leaves 600, of m=6
  pub multiply : Adds 0xE0000291 6 (nsi 0 1 2) 3
  pub multiply_long : Adds 0xE0000291 0xFFFFFFFF (nsi 0 1 16) 17
  pub multiply_rs : Adds 0xE0020291 6 (nsi 0 1 2) 3
  -- a stop adds nothing: an Other; MOV R0, R1, LSL R15; LDR R0, [R2] beyond memory; STR R0, [R2] to A+4; no word
  pub other : Adds 0xEF000000 6 no_sums 0
  pub forbidden : Adds 0xE1A00F11 6 no_sums 0
  pub outside : Adds 0xE5920000 0x110 no_sums 0
  pub fetched : Adds 0xE5820000 4 no_sums 0
  pub no_word : performs_sums None (state (replicate 15 0) 4 0 (lent zeros)) ≡ no_sums
