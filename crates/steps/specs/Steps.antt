-- What an instruction does in each of its own steps (paper 01, the table of "Pipeline"; multiply: 02 §1), besides the fetch.
use Rattle.std.specs.Prelude.{ℕ, zero, suc, get_or, drop, ltb, Option, Some, None}
use mathlib.Core.List.{List, [], ◌∷◌, tail}
use Rattle.bits.specs.Choice.{pick}
use Rattle.word.specs.declared.Single.{Single}
use Rattle.word.specs.declared.Block.{Block}
use Rattle.word.specs.declared.Multiply.{Multiply}
use Rattle.word.specs.declared.Instruction.{Instruction}
use Rattle.datapath.specs.Counter.{ahead, behind}
use Rattle.memory.specs.Memory.{Memory, read_word, write_word}
use Rattle.registers.specs.Registers.{Out, put, arrives}
use Rattle.processing.specs.Processing.{processed, by_register?}
use Rattle.multiply.specs.Multiply.{rs_of, multiplied}
use Rattle.multiply.specs.InternalCycles.{m_of}
use Rattle.transfer.specs.Single as single
use Rattle.transfer.specs.Block as block
use Rattle.semantics.specs.Branch.{branched}
use Rattle.steps.specs.declared.Phase.TheVariants.{Later}
use Rattle.steps.specs.declared.Ended.TheVariants.{Executed}
use Rattle.steps.specs.declared.Latches.{Latches}
use Rattle.steps.specs.declared.Step.{Step}
use Rattle.steps.specs.declared.After.{After}
use Rattle.steps.specs.declared.After.TheVariants.{More, Done, Jump}

abbrev pub latches : ℕ → ℕ → ℕ → Latches
latches a d b = record { address = a; datum = d; base = b }

abbrev pub idle : Latches
idle = latches 0 0 0

abbrev pub step : ℕ → Latches → After → Step
step f l e = record { flags = f; latches = l; after = e }

-- what a cycle does besides fetching: the step, with the registers and the memory after it
pub record Own : Type 0 where
  pub registers : List ℕ
  pub step : Step
  pub memory : Memory

abbrev pub own : List ℕ → Step → Memory → Own
own g s mem = record { registers = g; step = s; memory = mem }

abbrev pub ends : Option ℕ → After
ends None = Done (Executed 0)
ends (Some word) = Jump word

-- a step that leaves nothing in the latches
abbrev pub still : ℕ → After → Step
still f e = step f idle e

-- the last own step, which leaves o
abbrev pub last : Out → Memory → Own
last o mem = own o.registers (still o.flags (ends o.goes)) mem

-- one after which the counter goes on
abbrev pub done : List ℕ → ℕ → Memory → Own
done g f mem = own g (still f (Done (Executed 0))) mem

-- the instruction goes on with step k + 2
abbrev pub on : ℕ → Latches → ℕ → Step
on f l k = step f l (More (Later k))

-- ---- step 1; pc is A+8

-- a store reads its value here; R15 is stored as A+12
abbrev pub single_first : Single → List ℕ → ℕ → ℕ → Memory → Own
single_first i g f pc mem =
    own g
    (on f
    (latches (single.address_of i g f pc)
    (pick i.l 0 (single.stored_value g i.rd f (ahead pc 4)))
    (pick (single.writes_base i) (single.changed_base i g f pc) 0))
    0)
    mem

abbrev pub block_first : Block → List ℕ → ℕ → ℕ → Memory → Own
block_first i g f pc mem =
    own g
    (on f
    (latches (block.lowest_address i g)
    (pick i.l 0 (single.stored_value g (get_or (block.named i.list) 0 16) f (ahead pc 4)))
    (pick i.w (block.changed_base i g) 0))
    0)
    mem

unfoldable pub first_step : Instruction → List ℕ → ℕ → ℕ → Memory → Own
first_step (Instruction.Processing i) g f pc mem =
    pick (by_register? i.operand) (own g (still f (More (Later 0))) mem) (last (processed i g f pc) mem)
first_step (Instruction.Single i) g f pc mem = single_first i g f pc mem
first_step (Instruction.Block i) g f pc mem = block_first i g f pc mem
first_step (Instruction.Branch i) g f pc mem = last (branched i g f (behind pc 8)) mem
first_step (Instruction.Multiply i) g f pc mem = own g (still f (More (Later 0))) mem
first_step (Instruction.Other word) g f pc mem = done g f mem

-- ---- step k + 2; pc is A+12

-- a load: read and base; register
unfoldable pub load_later : Single → ℕ → List ℕ → ℕ → Latches → Memory → Own
load_later i zero g f l mem =
    own (single.with_base i g l.base) (on f (latches 0 (single.loaded_value i mem l.address) 0) 1) mem
load_later i (suc k) g f l mem = last (arrives g f i.rd l.datum) mem

-- a store: write and base
unfoldable pub store_later : Single → List ℕ → ℕ → Latches → Memory → Own
store_later i g f l mem = done (single.with_base i g l.base) f (single.stored_to i mem l.address l.datum)

-- the address after this one, or 0 where nothing of xs is left to be moved
abbrev pub next_to_move : List ℕ → ℕ → ℕ
next_to_move [] a = 0
next_to_move (x ∷ xs) a = block.next a

-- a block load's later step k + 3, with the registers still to be written: the first takes the data latch, and the next word is read
unfoldable pub load_step : ℕ → List ℕ → List ℕ → ℕ → Latches → Memory → Own
load_step k [] g f l mem = done g f mem
load_step k (x ∷ []) g f l mem = last (arrives g f x l.datum) mem
load_step k (x ∷ (y ∷ ys)) g f l mem =
    own (put g x l.datum) (on f (latches (next_to_move ys l.address) (read_word mem l.address) 0) (suc (suc k))) mem

-- first read and base; each later step writes one register and reads the next
unfoldable pub block_load_later : Block → ℕ → List ℕ → ℕ → Latches → Memory → Own
block_load_later i zero g f l mem =
    own (block.with_base i g l.base)
    (on f (latches (next_to_move (tail (block.named i.list)) l.address) (read_word mem l.address) 0) 1)
    mem
block_load_later i (suc k) g f l mem = load_step k (drop k (block.named i.list)) g f l mem

-- a block store's step k + 2, with the registers still to be stored: the data latch is written, and takes the next of them
unfoldable pub store_step : ℕ → List ℕ → List ℕ → ℕ → ℕ → Latches → Memory → Own
store_step k [] g f pc l mem = done g f mem
store_step k (x ∷ []) g f pc l mem = done g f (write_word mem l.address l.datum)
store_step k (x ∷ (y ∷ ys)) g f pc l mem =
    own g (on f (latches (block.next l.address) (single.stored_value g y f pc) 0) (suc k)) (write_word mem l.address l.datum)

-- first write and base; one write each
unfoldable pub block_store_later : Block → ℕ → List ℕ → ℕ → ℕ → Latches → Memory → Own
block_store_later i zero g f pc l mem = store_step 0 (block.named i.list) (block.with_base i g l.base) f pc l mem
block_store_later i (suc k) g f pc l mem = store_step (suc k) (drop (suc k) (block.named i.list)) g f pc l mem

-- the last step of a multiply, which leaves o and tells its m: Rd may be Rs, which then no longer does
abbrev pub multiply_last : ℕ → Out → Memory → Own
multiply_last m o mem = own o.registers (still o.flags (Done (Executed m))) mem

-- a multiply's steps 2 to m do nothing; Rd and the flags are written in the last, m+1
unfoldable pub multiply_later : Multiply → ℕ → List ℕ → ℕ → Memory → Own
multiply_later i k g f mem =
    let m = m_of (rs_of i g) in
    pick (ltb (suc k) m) (own g (still f (More (Later (suc k)))) mem) (multiply_last m (multiplied i g f) mem)

unfoldable pub later_step : Instruction → ℕ → List ℕ → ℕ → ℕ → Latches → Memory → Own
later_step (Instruction.Processing i) k g f pc l mem = last (processed i g f pc) mem
later_step (Instruction.Single i) k g f pc l mem = pick i.l (load_later i k g f l mem) (store_later i g f l mem)
later_step (Instruction.Block i) k g f pc l mem = pick i.l (block_load_later i k g f l mem) (block_store_later i k g f pc l mem)
later_step (Instruction.Branch i) k g f pc l mem = done g f mem
later_step (Instruction.Multiply i) k g f pc l mem = multiply_later i k g f mem
later_step (Instruction.Other word) k g f pc l mem = done g f mem
