-- The stores of an instruction: how many, how wide, where, and in which of its cycles and ticks (paper 01, the table of "Pipeline"; ticks: paper 02, §3).
use Rattle.std.specs.Prelude.{ℕ, zero, suc, ◌+◌, ◌-◌, List, [], ◌∷◌, eqb}
use Rattle.bits.specs.Choice.{pick}
use Rattle.word.specs.declared.Instruction.{Instruction}
use Rattle.datapath.specs.Counter.{ahead}
use Rattle.memory.specs.Bytes.{word_base}
use Rattle.registers.specs.State.{State}
use Rattle.transfer.specs.Single as single
use Rattle.transfer.specs.Block as block
use Rattle.link.specs.declared.Store.{Store}
use Rattle.link.specs.Window.{store}

-- the stores left in step k + 2: a store's one; of a block store one in each step, from the second on
unfoldable pub left : Instruction → ℕ → ℕ
left (Instruction.Processing i) k = 0
left (Instruction.Single i) k = pick i.l 0 1
left (Instruction.Block i) k = pick i.l 0 (block.count i - k)
left (Instruction.Branch i) k = 0
left (Instruction.Multiply i) k = 0
left (Instruction.Other word) k = 0

-- the bytes of each
unfoldable pub width : Instruction → ℕ
width (Instruction.Processing i) = 4
width (Instruction.Single i) = pick i.b 1 4
width (Instruction.Block i) = 4
width (Instruction.Branch i) = 4
width (Instruction.Multiply i) = 4
width (Instruction.Other word) = 4

-- a word's address has its low two bits cleared, a byte's is its own
abbrev pub place : ℕ → ℕ → ℕ
place bytes a = pick (eqb bytes 1) a (word_base a)

-- n stores in cycle and tick after cycle and tick: the writes of a block store after the first are S cycles, of one tick each
unfoldable pub burst : ℕ → ℕ → ℕ → ℕ → ℕ → List Store
burst zero bytes a cycle tick = []
burst (suc n) bytes a cycle tick = store cycle tick (place bytes a) bytes ∷ burst n bytes (block.next a) (suc cycle) (suc tick)

-- the address of the first
unfoldable pub first_address : Instruction → State → ℕ
first_address (Instruction.Processing i) s = 0
first_address (Instruction.Single i) s = single.address_of i s.registers s.status (ahead s.a 8)
first_address (Instruction.Block i) s = block.lowest_address i s.registers
first_address (Instruction.Branch i) s = 0
first_address (Instruction.Multiply i) s = 0
first_address (Instruction.Other word) s = 0

-- step 1 and the first write are N cycles, of two ticks each
abbrev pub first_tick : ℕ
first_tick = 4

-- an instruction that begins after so many cycles and ticks stores first in its second cycle and its fourth tick
unfoldable pub writes : Instruction → State → ℕ → ℕ → List Store
writes i s cycles ticks = burst (left i 0) (width i) (first_address i s) (cycles + 2) (ticks + first_tick)
