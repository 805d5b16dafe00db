-- What the core holds after each cycle of each kind of instruction, from a start: one table.
use Rattle.std.specs.Prelude.{ℕ, zero, suc, ◌≡◌, List, [], ◌∷◌, eqb, length, Option, None}
use Rattle.bits.specs.Choice.{pick}
use Rattle.memory.specs.declared.Board.{Board}
use Rattle.memory.specs.Memory.{memory_of, word_at}
use Rattle.semantics.specs.declared.Sums.{Sums}
use Rattle.semantics.specs.Sums.{nsi}
use Rattle.steps.specs.declared.Phase.{Phase}
use Rattle.steps.specs.declared.Phase.TheVariants.{Step1, Refill1, Refill2, Later}
use Rattle.steps.specs.declared.Latches.{Latches}
use Rattle.steps.specs.Steps.{latches}
use Rattle.steps.specs.LatchTable.{bytes}
use Rattle.cycle.specs.declared.Pipe.{Pipe}
use Rattle.cycle.specs.Machine.{Machine, machine, pipe}
use Rattle.cycle.specs.Cycle.{cycle}
use Rattle.cycle.specs.Fresh.{fresh_control}

-- from 0, then words that are only fetched, then from 40 words that are loaded or stored over
abbrev pub words : List ℕ
words =
    0xE1A01312 ∷  -- 00 MOV R1, R2, LSL R3
    0xE5B54001 ∷  -- 04 LDR R4, [R5, #1]!
    0xE4D6B001 ∷  -- 08 LDRB R11, [R6], #1
    0xE5856004 ∷  -- 0C STR R6, [R5, #4]
    0xE58CF000 ∷  -- 10 STR R15, [R12]
    0xE8B70106 ∷  -- 14 LDMIA R7!, {R1, R2, R8}
    0xE8A90300 ∷  -- 18 STMIA R9!, {R8, R9}
    0x0A000000 ∷  -- 1C BEQ
    0xEB000001 ∷  -- 20 BL 2C
    0xE00A0293 ∷  -- 24 MUL R10, R3, R2
    0xEF000028 ∷
    0xE59DF000 ∷  -- 2C LDR R15, [R13]
    0xEF000030 ∷ 0xEF000034 ∷ 0xEF000038 ∷ 0xEF00003C ∷
    0x44332211 ∷ 0 ∷ 0 ∷ 0x24 ∷ 0x11 ∷ 0x12 ∷ 0x18 ∷ 0 ∷ 0 ∷ 0 ∷ []

abbrev pub registers : List ℕ
registers = 0 ∷ 0 ∷ 3 ∷ 4 ∷ 0 ∷ 0x40 ∷ 0x42 ∷ 0x50 ∷ 0 ∷ 0x60 ∷ 0 ∷ 0 ∷ 0x48 ∷ 0x4C ∷ 0 ∷ []

abbrev pub board : Board
board = record { size = length (bytes words) }

-- with C set
abbrev pub started : Machine
started = machine registers (fresh_control 2 0 board) (bytes words)

-- the word fetched at an address
abbrev pub at : ℕ → Option ℕ
at a = word_at (memory_of board (bytes words)) a

-- a register and what was written to it
pub record Write : Type 0 where
  pub register : ℕ
  pub value : ℕ

abbrev pub R : ℕ → ℕ → Write
R n v = record { register = n; value = v }

-- the registers, from n on, that have other values afterwards
unfoldable pub changes : ℕ → List ℕ → List ℕ → List Write
changes n [] hs = []
changes n (g ∷ gs) [] = []
changes n (g ∷ gs) (h ∷ hs) = pick (eqb g h) (changes (suc n) gs hs) (R n h ∷ changes (suc n) gs hs)

pub record Row : Type 0 where
  pub phase : Phase
  pub pipe : Pipe
  pub latches : Latches
  pub retired : ℕ
  pub sums : Sums
  pub writes : List Write

abbrev pub row : Phase → ℕ → Option ℕ → Option ℕ → Option ℕ → ℕ → ℕ → ℕ → ℕ → Sums → List Write → Row
row ph pc ir1 ir2 ix address datum base retired sums writes =
    record { phase = ph; pipe = pipe pc ir1 ir2 ix; latches = latches address datum base; retired = retired; sums = sums; writes = writes }

-- n cores from m on, each with the registers that its last cycle changed
unfoldable pub rows : ℕ → List ℕ → Machine → List Row
rows zero before m = []
rows (suc n) before m =
    record {
      phase = m.control.phase;
      pipe = m.control.pipe;
      latches = m.control.latches;
      retired = m.control.counts.retired;
      sums = m.control.counts.sums;
      writes = changes 0 before m.registers;
    }
    ∷ rows n m.registers (cycle m)

-- phase; PC, IR1, IR2, IX; address, data and base latch; retired; N, S, I; registers written
abbrev pub table : List Row
table =
    -- start, and its refills
    row Refill1 0x00 None None None 0 0 0 0 (nsi 0 0 0) []
    ∷ row Refill2 0x04 (at 0x00) None None 0 0 0 0 (nsi 0 0 0) []
    ∷ row Step1 0x08 (at 0x04) (at 0x00) (at 0x00) 0 0 0 0 (nsi 1 1 0) []
    -- shift by register: all done in the second step
    ∷ row (Later 0) 0x0C (at 0x08) (at 0x04) (at 0x00) 0 0 0 0 (nsi 1 1 0) []
    ∷ row Step1 0x0C (at 0x08) (at 0x04) (at 0x04) 0 0 0 1 (nsi 1 2 1) (R 1 0x30 ∷ [])
    -- load: address; read and base; register
    ∷ row (Later 0) 0x10 (at 0x0C) (at 0x08) (at 0x04) 0x41 0 0x41 1 (nsi 1 2 1) []
    ∷ row (Later 1) 0x10 (at 0x0C) (at 0x08) (at 0x04) 0 0x11443322 0 1 (nsi 1 2 1) (R 5 0x41 ∷ [])
    ∷ row Step1 0x10 (at 0x0C) (at 0x08) (at 0x08) 0 0 0 2 (nsi 2 3 2) (R 4 0x11443322 ∷ [])
    -- load of a byte, post-indexed
    ∷ row (Later 0) 0x14 (at 0x10) (at 0x0C) (at 0x08) 0x42 0 0x43 2 (nsi 2 3 2) []
    ∷ row (Later 1) 0x14 (at 0x10) (at 0x0C) (at 0x08) 0 0x33 0 2 (nsi 2 3 2) (R 6 0x43 ∷ [])
    ∷ row Step1 0x14 (at 0x10) (at 0x0C) (at 0x0C) 0 0 0 3 (nsi 3 4 3) (R 11 0x33 ∷ [])
    -- store: address; write and base
    ∷ row (Later 0) 0x18 (at 0x14) (at 0x10) (at 0x0C) 0x45 0x43 0 3 (nsi 3 4 3) []
    ∷ row Step1 0x18 (at 0x14) (at 0x10) (at 0x10) 0 0 0 4 (nsi 5 4 3) []
    -- store of R15: flags with A+12
    ∷ row (Later 0) 0x1C (at 0x18) (at 0x14) (at 0x10) 0x48 0x2000001C 0 4 (nsi 5 4 3) []
    ∷ row Step1 0x1C (at 0x18) (at 0x14) (at 0x14) 0 0 0 5 (nsi 7 4 3) []
    -- block load: address; first read and base; each later step writes one register and reads the next
    ∷ row (Later 0) 0x20 (at 0x1C) (at 0x18) (at 0x14) 0x50 0 0x5C 5 (nsi 7 4 3) []
    ∷ row (Later 1) 0x20 (at 0x1C) (at 0x18) (at 0x14) 0x54 0x11 0 5 (nsi 7 4 3) (R 7 0x5C ∷ [])
    ∷ row (Later 2) 0x20 (at 0x1C) (at 0x18) (at 0x14) 0x58 0x12 0 5 (nsi 7 4 3) (R 1 0x11 ∷ [])
    ∷ row (Later 3) 0x20 (at 0x1C) (at 0x18) (at 0x14) 0 0x18 0 5 (nsi 7 4 3) (R 2 0x12 ∷ [])
    ∷ row Step1 0x20 (at 0x1C) (at 0x18) (at 0x18) 0 0 0 6 (nsi 8 7 4) (R 8 0x18 ∷ [])
    -- block store: address; first write and base; one write each, a later base the new one
    ∷ row (Later 0) 0x24 (at 0x20) (at 0x1C) (at 0x18) 0x60 0x18 0x68 6 (nsi 8 7 4) []
    ∷ row (Later 1) 0x24 (at 0x20) (at 0x1C) (at 0x18) 0x64 0x68 0 6 (nsi 8 7 4) (R 9 0x68 ∷ [])
    ∷ row Step1 0x24 (at 0x20) (at 0x1C) (at 0x1C) 0 0 0 7 (nsi 10 8 4) []
    -- failed condition
    ∷ row Step1 0x28 (at 0x24) (at 0x20) (at 0x20) 0 0 0 8 (nsi 10 9 4) []
    -- branch, link there; refill 1, refill 2
    ∷ row Refill1 0x2C (at 0x28) (at 0x24) (at 0x20) 0 0 0 8 (nsi 10 9 4) (R 14 0x20000024 ∷ [])
    ∷ row Refill2 0x30 (at 0x2C) (at 0x28) (at 0x20) 0 0 0 8 (nsi 10 9 4) []
    ∷ row Step1 0x34 (at 0x30) (at 0x2C) (at 0x2C) 0 0 0 9 (nsi 11 11 4) []
    -- load to R15
    ∷ row (Later 0) 0x38 (at 0x34) (at 0x30) (at 0x2C) 0x4C 0 0 9 (nsi 11 11 4) []
    ∷ row (Later 1) 0x38 (at 0x34) (at 0x30) (at 0x2C) 0 0x24 0 9 (nsi 11 11 4) []
    ∷ row Refill1 0x24 (at 0x34) (at 0x30) (at 0x2C) 0 0 0 9 (nsi 11 11 4) []
    ∷ row Refill2 0x28 (at 0x24) (at 0x34) (at 0x2C) 0 0 0 9 (nsi 11 11 4) []
    ∷ row Step1 0x2C (at 0x28) (at 0x24) (at 0x24) 0 0 0 10 (nsi 13 13 5) []
    -- multiply, with 12 in R2 and so m=3: all done in step 4
    ∷ row (Later 0) 0x30 (at 0x2C) (at 0x28) (at 0x24) 0 0 0 10 (nsi 13 13 5) []
    ∷ row (Later 1) 0x30 (at 0x2C) (at 0x28) (at 0x24) 0 0 0 10 (nsi 13 13 5) []
    ∷ row (Later 2) 0x30 (at 0x2C) (at 0x28) (at 0x24) 0 0 0 10 (nsi 13 13 5) []
    ∷ row Step1 0x30 (at 0x2C) (at 0x28) (at 0x28) 0 0 0 11 (nsi 13 14 8) (R 10 0x48 ∷ [])
    ∷ []

pub record CycleTable : Type 0 where
  -- the address latch holds the next address to be moved; a latch that no step left needs is 0
  pub cycles : rows 36 registers started ≡ table
