-- What a whole instruction does that meets no stop and whose condition passes (paper 01, "Meaning"; multiply: 02 §1).
use Rattle.std.specs.Prelude.{◌≡◌, ℕ, List, None}
use Rattle.bits.specs.Choice.{pick}
use Rattle.word.specs.declared.Single.{Single}
use Rattle.word.specs.declared.Block.{Block}
use Rattle.word.specs.declared.Instruction.{Instruction}
use Rattle.datapath.specs.Counter.{ahead}
use Rattle.memory.specs.Memory.{Memory}
use Rattle.registers.specs.declared.Outcome.{Outcome}
use Rattle.registers.specs.Registers.{Out, out, arrives}
use Rattle.registers.specs.State.{State}
use Rattle.processing.specs.Processing.{processed, reads_at}
use Rattle.multiply.specs.Multiply.{multiplied}
use Rattle.transfer.specs.Single as single
use Rattle.transfer.specs.Block as block
use Rattle.semantics.specs.Branch.{branched}

pub record Effect : Type 0 where
  pub out : Out
  pub memory : Memory

abbrev pub effect : Out → Memory → Effect
effect o mem = record { out = o; memory = mem }

-- what a call leaves in the registers h and says of the rest, each by itself
pub record Left (o : Out) (h : List ℕ) (t : Outcome) : Type 0 where
  pub registers : h ≡ o.registers
  pub flags : t.flags ≡ o.flags
  pub goes : t.goes ≡ o.goes

-- the base, then the register: a load into the base register wins
abbrev pub base_then_register : Single → List ℕ → ℕ → ℕ → ℕ → Out
base_then_register i g f base value = arrives (single.with_base i g base) f i.rd value

unfoldable pub load_effect : Single → State → Effect
load_effect i s =
    let g = s.registers in
    let f = s.status in
    let pc = ahead s.a 8 in
    effect
    (base_then_register i g f (single.changed_base i g f pc) (single.loaded_value i s.memory (single.address_of i g f pc)))
    s.memory

-- a store of the base writes its old value
unfoldable pub store_effect : Single → State → Effect
store_effect i s =
    let g = s.registers in
    let f = s.status in
    let pc = ahead s.a 8 in
    effect
    (out (single.with_base i g (single.changed_base i g f pc)) f None)
    (single.stored_to i s.memory (single.address_of i g f pc) (single.stored_value g i.rd f (ahead s.a 12)))

-- the base, then the registers: a loaded base wins
abbrev pub base_then_registers : Block → List ℕ → ℕ → ℕ → ℕ → Memory → Out
base_then_registers i g f base lowest mem = block.loads (block.named i.list) (block.with_base i g base) f lowest mem

unfoldable pub block_load_effect : Block → State → Effect
block_load_effect i s =
    let g = s.registers in
    effect (base_then_registers i g s.status (block.changed_base i g) (block.lowest_address i g) s.memory) s.memory

unfoldable pub block_store_effect : Block → State → Effect
block_store_effect i s =
    let g = s.registers in
    let h = block.with_base i g (block.changed_base i g) in
    effect
    (out h s.status None)
    (block.stores_all (block.named i.list) g h s.status (ahead s.a 12) (block.lowest_address i g) s.memory)

-- an Other is never done
unfoldable pub effect_of : Instruction → State → Effect
effect_of (Instruction.Processing i) s = effect (processed i s.registers s.status (reads_at i s.a)) s.memory
effect_of (Instruction.Single i) s = pick i.l (load_effect i s) (store_effect i s)
effect_of (Instruction.Block i) s = pick i.l (block_load_effect i s) (block_store_effect i s)
effect_of (Instruction.Branch i) s = effect (branched i s.registers s.status s.a) s.memory
effect_of (Instruction.Multiply i) s = effect (multiplied i s.registers s.status) s.memory
effect_of (Instruction.Other word) s = effect (out s.registers s.status None) s.memory
