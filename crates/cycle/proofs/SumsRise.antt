-- A cycle raises the sums by no more than 36, whatever the record: 20 and m, which is 16 at most.
-- Assumes nothing.
use Rattle.std.specs.Prelude.{Option, ℕ, Some, None}
use Prim.Native.Nat.{ℕ, zero, suc, ◌+◌, ◌≤◌}
use mathlib.Core.List.{List, [], ◌∷◌}
use mathlib.Core.Bool.{Bool, true, false}
use native.Mathlib.Omega.{arith}
use lib.ListN.{drop}
use lib.Dec.{ltb}
use Rattle.bits.specs.Choice.{pick}
use Rattle.word.specs.declared.Single.{Single}
use Rattle.word.specs.declared.Block.{Block}
use Rattle.word.specs.declared.Instruction.{Instruction}
use Rattle.word.specs.Reader.{read_of}
use Rattle.memory.specs.Memory.{Memory}
use Rattle.processing.specs.Processing.{by_register?, processed}
use Rattle.registers.specs.Registers.{arrives}
use Rattle.datapath.specs.Counter.{behind}
use Rattle.multiply.specs.Multiply.{rs_of, multiplied}
use Rattle.multiply.specs.InternalCycles.{m_of}
use Rattle.multiply.proofs.InternalCycles.{m-bounds}
use Rattle.transfer.specs.Block as block
use Rattle.semantics.specs.Branch.{branched}
use Rattle.semantics.specs.declared.Sums.{Sums}
use Rattle.semantics.specs.Sums.{total}
use Rattle.semantics.proofs.WordSums.{sums-short}
use Rattle.stops.specs.Stops.{Due, no_word_there, skipped, executes, due}
use Rattle.steps.specs.declared.Phase.{Phase}
use Rattle.steps.specs.declared.Phase.TheVariants.{Step1, Refill1, Refill2, Later}
use Rattle.steps.specs.declared.Ended.TheVariants.{Start, Skipped, Executed}
use Rattle.steps.specs.declared.After.{After}
use Rattle.steps.specs.declared.After.TheVariants.{More, Done, Jump}
use Rattle.steps.specs.declared.Latches.{Latches}
use Rattle.steps.specs.Steps.{own, ends, still, last, multiply_last, first_step, later_step, load_later, store_later, load_step, block_load_later, store_step, block_store_later, multiply_later}
use Rattle.cycle.specs.Machine.{Machine}
use Rattle.cycle.specs.Cycle.{first_due, later_of, refilled, own_of, sums_after, cycle}

-- an m that a multiply can have
Small : After → Type 0
Small (More ph) = Unit {0}
Small (Done Start) = Unit {0}
Small (Done Skipped) = Unit {0}
Small (Done (Executed m)) = m ≤ 16
Small (Jump w) = Unit {0}

ends-small : (e : Option ℕ) → Small (ends e)
unfolding Small
ends-small None = omega arith
ends-small (Some w) = tt

first-small : (i : Instruction) (g : List ℕ) (f pc : ℕ) (mem : Memory) → Small (first_step i g f pc mem).step.after
unfolding Small first_step
first-small (Instruction.Processing i) g f pc mem = go (by_register? i.operand)
  where
    go : (b : Bool) → Small (pick b (own g (still f (More (Later 0))) mem) (last (processed i g f pc) mem)).step.after
    go true = tt
    go false = ends-small (processed i g f pc).goes
first-small (Instruction.Single i) g f pc mem = tt
first-small (Instruction.Block i) g f pc mem = tt
first-small (Instruction.Branch i) g f pc mem = ends-small (branched i g f (behind pc 8)).goes
first-small (Instruction.Multiply i) g f pc mem = tt
first-small (Instruction.Other w) g f pc mem = omega arith

single-small : (i : Single) (k : ℕ) (g : List ℕ) (f : ℕ) (l : Latches) (mem : Memory) (b : Bool)
    → Small (pick b (load_later i k g f l mem) (store_later i g f l mem)).step.after
unfolding Small load_later store_later
single-small i zero g f l mem true = tt
single-small i (suc k) g f l mem true = ends-small (arrives g f i.rd l.datum).goes
single-small i k g f l mem false = omega arith

load-step-small : (k : ℕ) (r g : List ℕ) (f : ℕ) (l : Latches) (mem : Memory) → Small (load_step k r g f l mem).step.after
unfolding Small load_step
load-step-small k [] g f l mem = omega arith
load-step-small k (x ∷ []) g f l mem = ends-small (arrives g f x l.datum).goes
load-step-small k (x ∷ (y ∷ ys)) g f l mem = tt

store-step-small : (k : ℕ) (r g : List ℕ) (f pc : ℕ) (l : Latches) (mem : Memory) → Small (store_step k r g f pc l mem).step.after
unfolding Small store_step
store-step-small k [] g f pc l mem = omega arith
store-step-small k (x ∷ []) g f pc l mem = omega arith
store-step-small k (x ∷ (y ∷ ys)) g f pc l mem = tt

block-small : (i : Block) (k : ℕ) (g : List ℕ) (f pc : ℕ) (l : Latches) (mem : Memory) (b : Bool)
    → Small (pick b (block_load_later i k g f l mem) (block_store_later i k g f pc l mem)).step.after
unfolding Small block_load_later block_store_later
block-small i zero g f pc l mem true = tt
block-small i zero g f pc l mem false = store-step-small 0 (block.named i.list) (block.with_base i g l.base) f pc l mem
block-small i (suc k) g f pc l mem true = load-step-small k (drop k (block.named i.list)) g f l mem
block-small i (suc k) g f pc l mem false = store-step-small (suc k) (drop (suc k) (block.named i.list)) g f pc l mem

later-small : (i : Instruction) (k : ℕ) (g : List ℕ) (f pc : ℕ) (l : Latches) (mem : Memory) → Small (later_step i k g f pc l mem).step.after
unfolding Small later_step multiply_later
later-small (Instruction.Processing i) k g f pc l mem = ends-small (processed i g f pc).goes
later-small (Instruction.Single i) k g f pc l mem = single-small i k g f l mem i.l
later-small (Instruction.Block i) k g f pc l mem = block-small i k g f pc l mem i.l
later-small (Instruction.Branch i) k g f pc l mem = omega arith
later-small (Instruction.Multiply i) k g f pc l mem = go (ltb (suc k) (m_of (rs_of i g)))
  where
    go : (b : Bool) → Small (pick b (own g (still f (More (Later (suc k)))) mem) (multiply_last (m_of (rs_of i g)) (multiplied i g f) mem)).step.after
    go true = tt
    go false = (m-bounds (rs_of i g)).1
later-small (Instruction.Other w) k g f pc l mem = omega arith

own-small : (ph : Phase) (m : Machine) → Small (own_of ph m).step.after
unfolding Small own_of
own-small Refill1 m = tt
own-small Refill2 m = go m.control.pipe.ix
  where
    go : (x : Option ℕ) → Small (Done (refilled x))
    go None = tt
    go (Some w) = omega arith
own-small Step1 m = go (due m.control.pipe.ix m.control.flags)
  where
    go : (d : Due) → Small (first_due d m).step.after
    go no_word_there = tt
    go skipped = tt
    go (executes i) = first-small i _ _ _ _
own-small (Later k) m = go m.control.pipe.ix
  where
    go : (x : Option ℕ) → Small (later_of k x m).step.after
    go None = tt
    go (Some w) = later-small (read_of w) k _ _ _ _ _

rise : (e : After) (x : Option ℕ) (q : Sums) → Small e → total (sums_after e x q) ≤ total q + 36
unfolding Small
rise (More ph) x q h = omega arith
rise (Done Start) x q h = omega arith
rise (Done Skipped) x q h = omega arith
rise (Done (Executed m)) (Some w) q h = omega (arith, h, sums-short (read_of w) m)
rise (Done (Executed m)) None q h = omega arith
rise (Jump w) x q h = omega arith

pub sums-rise : (m : Machine) → total (cycle m).control.counts.sums ≤ total m.control.counts.sums + 36
unfolding cycle
sums-rise m = rise (own_of m.control.phase m).step.after m.control.pipe.ix m.control.counts.sums (own-small m.control.phase m)
