-- Marked stores: of the table of cycles, by the core and by the plain machine; a byte, a load, an instruction that is skipped and one that stops.
use Rattle.std.specs.Prelude.{ℕ, ◌≡◌, List, [], ◌∷◌}
use Rattle.memory.specs.Memory.{memory_of}
use Rattle.registers.specs.State.{State, state}
use Rattle.word.specs.Reader.{read_of}
use Rattle.plain.specs.Machine as plain
use Rattle.steps.specs.LatchTable.{bytes}
use Rattle.cycle.specs.CycleTable.{words, registers, board, started}
use Rattle.link.specs.declared.Store.{Store}
use Rattle.link.specs.Window.{store}
use Rattle.stores.specs.Writes.{writes}
use Rattle.stores.specs.Coming.{stored}
use Rattle.stores.specs.Planned.{planned}

-- STR R6, [R5, #4] from 45; STR R15; STMIA R9!, {R8, R9}: the first write of each is two cycles and four ticks after the instruction begins
abbrev pub table : List Store
table = store 12 17 0x44 4 ∷ store 14 21 0x48 4 ∷ store 21 31 0x60 4 ∷ store 22 32 0x64 4 ∷ []

abbrev pub plainly : ℕ → ℕ → plain.Machine
plainly a flags = plain.machine (plain.plain registers a flags 0 board) (bytes words)

-- R5 is 40
abbrev pub there : State
there = state registers 0 0 (memory_of board (bytes words))

pub record Marked : Type 0 where
  pub core : stored started 35 ≡ table
  -- eleven instructions of the plain machine
  pub plain_machine : planned (plainly 0 2) 11 ≡ table
  -- STRB R6, [R5, #1]
  pub byte : writes (read_of 0xE5C56001) there 100 200 ≡ store 102 204 0x41 1 ∷ []
  -- STR R6, [R5, #1]
  pub word : writes (read_of 0xE5856001) there 100 200 ≡ store 102 204 0x40 4 ∷ []
  -- LDR R6, [R5, #1]; LDMIA R5, {R6, R7}
  pub load : writes (read_of 0xE5956001) there 100 200 ≡ []
  pub block_load : writes (read_of 0xE89500C0) there 100 200 ≡ []
  -- STMDB R5, {R0, R1, R2}
  pub block : writes (read_of 0xE9050007) there 100 200 ≡ store 102 204 0x34 4 ∷ (store 103 205 0x38 4 ∷ (store 104 206 0x3C 4 ∷ []))
