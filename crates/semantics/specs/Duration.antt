-- Own steps and duration (paper 01, the table of "Pipeline"; multiply: 02 §1).
use Rattle.std.specs.Prelude.{◌≡◌, ℕ, suc, ◌+◌, Bool, true, false, not, ◌&&◌, List, nat_lt, Option, Some, None}
use Rattle.bits.specs.Choice.{pick}
use Rattle.bits.specs.Bits.{bit}
use Rattle.word.specs.declared.Processing.{Processing}
use Rattle.word.specs.declared.Single.{Single}
use Rattle.word.specs.declared.Block.{Block}
use Rattle.word.specs.declared.Multiply.{Multiply}
use Rattle.word.specs.declared.Instruction.{Instruction}
use Rattle.datapath.specs.Alu.{stores_result}
use Rattle.datapath.specs.Counter.{ahead, counter}
use Rattle.registers.specs.State.{State}
use Rattle.registers.specs.Registers.{register}
use Rattle.processing.specs.Processing.{by_register?}
use Rattle.multiply.specs.InternalCycles.{m_of}
use Rattle.transfer.specs.Block as block
use Rattle.semantics.specs.Effect.{effect_of}

abbrev pub processing_steps : Processing → ℕ
processing_steps i = pick (by_register? i.operand) 2 1

abbrev pub single_steps : Single → ℕ
single_steps i = pick i.l 3 2

abbrev pub block_steps : Block → ℕ
block_steps i = pick i.l (block.count i + 2) (block.count i + 1)

abbrev pub branch_steps : ℕ
branch_steps = 1

-- 1+m, by the value of Rs
abbrev pub multiply_steps : Multiply → List ℕ → ℕ
multiply_steps i g = suc (m_of (register g i.rs 0))

-- own steps, in the registers as they stand before the instruction
unfoldable pub own_steps : Instruction → List ℕ → ℕ
own_steps (Instruction.Processing i) g = processing_steps i
own_steps (Instruction.Single i) g = single_steps i
own_steps (Instruction.Block i) g = block_steps i
own_steps (Instruction.Branch i) g = branch_steps
own_steps (Instruction.Multiply i) g = multiply_steps i g
own_steps (Instruction.Other word) g = 1

-- the steps of a failed condition
abbrev pub skipped_steps : ℕ
skipped_steps = 1

-- the refills of a stored counter
abbrev pub refills : Option ℕ → ℕ
refills None = 0
refills (Some word) = 2

-- the address of the next instruction: a stored counter is bits 25..2 of its word
abbrev pub next_address : ℕ → Option ℕ → ℕ
next_address a None = ahead a 4
next_address a (Some word) = counter word

-- whether an instruction stores the counter goes by its word alone
unfoldable pub stores_counter : Instruction → Bool
stores_counter (Instruction.Processing i) = stores_result i.operation && not (nat_lt i.rd 15)
stores_counter (Instruction.Single i) = i.l && not (nat_lt i.rd 15)
stores_counter (Instruction.Block i) = i.l && bit i.list 15
stores_counter (Instruction.Branch i) = true
stores_counter (Instruction.Multiply i) = false
stores_counter (Instruction.Other word) = false

-- and so does the number of its refills, in every state
abbrev pub StoredCounters : Type 0
StoredCounters = (i : Instruction) (s : State) → refills (effect_of i s).out.goes ≡ pick (stores_counter i) 2 0

-- own steps, and the two refills of an instruction that stores the counter
abbrev pub with_refills : ℕ → Bool → ℕ
with_refills steps stores = steps + pick stores 2 0

-- the duration of an instruction that is executed
unfoldable pub duration_of : Instruction → List ℕ → ℕ
duration_of i g = with_refills (own_steps i g) (stores_counter i)
