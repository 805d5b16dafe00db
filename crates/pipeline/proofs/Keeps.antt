-- What a cycle keeps: the number of the registers, the length of memory, and flags below 16.
-- Assumes nothing.
use Rattle.std.specs.Prelude.{Option, ℕ, Some, None}
use Prim.Native.Nat.{ℕ, zero, suc, ◌<◌}
use mathlib.Core.Path.{◌≡◌, refl, ◌∙◌}
use mathlib.Core.List.{List, [], ◌∷◌}
use mathlib.Core.Bool.{Bool, true, false}
use lib.Dec.{ltb}
use lib.ListN.{length, drop, set, length-set}
use Rattle.bits.specs.Choice.{pick}
use Rattle.bits.specs.Bits.{field}
use Rattle.bits.proofs.Fields.{field_lt}
use Rattle.word.specs.declared.Processing.{Processing}
use Rattle.word.specs.declared.Single.{Single}
use Rattle.word.specs.declared.Block.{Block}
use Rattle.word.specs.declared.Branch.{Branch}
use Rattle.word.specs.declared.Multiply.{Multiply}
use Rattle.word.specs.declared.Instruction.{Instruction}
use Rattle.word.specs.Reader.{read_of}
use Rattle.datapath.specs.Alu.{flags_of, stores_result}
use Rattle.datapath.specs.declared.Computed.{Computed}
use Rattle.datapath.proofs.Flags.{flags-lt}
use Rattle.datapath.specs.Counter.{behind}
use Rattle.memory.specs.Memory.{Memory}
use Rattle.stops.specs.Stops.{Due, no_word_there, skipped, executes, due}
use Rattle.memory.proofs.Laws.{write-length}
use Rattle.registers.specs.Registers.{put, Out, out, arrives}
use Rattle.processing.specs.Processing.{flags_after, stored, processed, by_register?}
use Rattle.multiply.specs.Multiply as multiply
use Rattle.multiply.specs.Multiply.{rs_of, multiplied}
use Rattle.multiply.specs.InternalCycles.{m_of}
use Rattle.transfer.specs.Block as block
use Rattle.transfer.proofs.Lengths.{put-length, single-base-length, block-base-length, stored-to-alike}
use Rattle.semantics.specs.Branch.{branched}
use Rattle.steps.specs.declared.Phase.{Phase}
use Rattle.steps.specs.declared.Phase.TheVariants.{Step1, Refill1, Refill2, Later}
use Rattle.steps.specs.declared.After.TheVariants.{More}
use Rattle.steps.specs.declared.Latches.{Latches}
use Rattle.steps.specs.Steps.{Own, own, last, multiply_last, still, first_step, later_step, load_later, store_later, load_step, block_load_later, store_step, block_store_later, multiply_later}
use Rattle.cycle.specs.Machine.{Machine, lent}
use Rattle.cycle.specs.Cycle.{first_due, later_of, own_of, cycle}
use Rattle.runs.specs.Run.{reach}

abbrev Keeps : List ℕ → ℕ → Memory → Own → Type 0
Keeps g f mem o = (length o.registers ≡ length g) × (length o.memory.bytes ≡ length mem.bytes) × (f < 16 → o.step.flags < 16)

abbrev KeepsOut : List ℕ → ℕ → Out → Type 0
KeepsOut g f o = (length o.registers ≡ length g) × (f < 16 → o.flags < 16)

arrives-keeps : (g : List ℕ) (f n v : ℕ) → KeepsOut g f (arrives g f n v)
unfolding arrives
arrives-keeps g f n v = go (ltb n 15)
  where
    go : (b : Bool) → KeepsOut g f (pick b (out (set g n v) f None) (out g f (Some v)))
    go true = (length-set g n v, λ h. h)
    go false = (refl, λ h. h)

flags-after : (i : Processing) (f : ℕ) (r : Computed) → f < 16 → flags_after i f r < 16
unfolding flags_after
flags-after i f r h = go i.s (ltb i.rd 15)
  where
    go : (b d : Bool) → pick b (pick d (flags_of r) (field r.value 28 4)) f < 16
    go true true = flags-lt r
    go true false = field_lt r.value 28 4
    go false d = h

processed-keeps : (i : Processing) (g : List ℕ) (f pc : ℕ) → KeepsOut g f (processed i g f pc)
unfolding processed stored
processed-keeps i g f pc = go (stores_result i.operation) _
  where
    go : (b : Bool) (r : Computed) → KeepsOut g f (pick b (arrives g (flags_after i f r) i.rd r.value) (out g (flags_after i f r) None))
    go true r = let a = arrives-keeps g (flags_after i f r) i.rd r.value in (a.0, λ h. a.1 (flags-after i f r h))
    go false r = (refl, flags-after i f r)

branched-keeps : (i : Branch) (g : List ℕ) (f a : ℕ) → KeepsOut g f (branched i g f a)
unfolding branched
branched-keeps i g f a = (go i.link _, λ h. h)
  where
    go : (b : Bool) (v : ℕ) → length (pick b (put g 14 v) g) ≡ length g
    go true v = put-length g 14 v
    go false v = refl

multiplied-keeps : (i : Multiply) (g : List ℕ) (f : ℕ) → KeepsOut g f (multiplied i g f)
unfolding multiplied multiply.flags_after
multiplied-keeps i g f = (put-length g i.rd _, go i.s _)
  where
    go : (b : Bool) (r : Computed) → f < 16 → pick b (flags_of r) f < 16
    go true r h = flags-lt r
    go false r h = h

-- ---- steps

first-keeps : (i : Instruction) (g : List ℕ) (f pc : ℕ) (mem : Memory) → Keeps g f mem (first_step i g f pc mem)
unfolding first_step
first-keeps (Instruction.Processing i) g f pc mem = go (by_register? i.operand) (processed-keeps i g f pc)
  where
    go : (b : Bool) → KeepsOut g f (processed i g f pc) → Keeps g f mem (pick b (own g (still f (More (Later 0))) mem) (last (processed i g f pc) mem))
    go true k = (refl, refl, λ h. h)
    go false k = (k.0, refl, k.1)
first-keeps (Instruction.Single i) g f pc mem = (refl, refl, λ h. h)
first-keeps (Instruction.Block i) g f pc mem = (refl, refl, λ h. h)
first-keeps (Instruction.Branch i) g f pc mem = let k = branched-keeps i g f (behind pc 8) in (k.0, refl, k.1)
first-keeps (Instruction.Multiply i) g f pc mem = (refl, refl, λ h. h)
first-keeps (Instruction.Other w) g f pc mem = (refl, refl, λ h. h)

single-keeps : (i : Single) (k : ℕ) (g : List ℕ) (f : ℕ) (l : Latches) (mem : Memory) (b : Bool)
    → Keeps g f mem (pick b (load_later i k g f l mem) (store_later i g f l mem))
unfolding load_later store_later
single-keeps i zero g f l mem true = (single-base-length i g l.base, refl, λ h. h)
single-keeps i (suc k) g f l mem true = let a = arrives-keeps g f i.rd l.datum in (a.0, refl, a.1)
single-keeps i k g f l mem false = (single-base-length i g l.base, (stored-to-alike i mem l.address l.datum).length, λ h. h)

load-step-keeps : (k : ℕ) (r g : List ℕ) (f : ℕ) (l : Latches) (mem : Memory) → Keeps g f mem (load_step k r g f l mem)
unfolding load_step
load-step-keeps k [] g f l mem = (refl, refl, λ h. h)
load-step-keeps k (x ∷ []) g f l mem = let a = arrives-keeps g f x l.datum in (a.0, refl, a.1)
load-step-keeps k (x ∷ (y ∷ ys)) g f l mem = (put-length g x l.datum, refl, λ h. h)

store-step-keeps : (k : ℕ) (r g : List ℕ) (f pc : ℕ) (l : Latches) (mem : Memory) → Keeps g f mem (store_step k r g f pc l mem)
unfolding store_step
store-step-keeps k [] g f pc l mem = (refl, refl, λ h. h)
store-step-keeps k (x ∷ []) g f pc l mem = (refl, write-length mem l.address l.datum, λ h. h)
store-step-keeps k (x ∷ (y ∷ ys)) g f pc l mem = (refl, write-length mem l.address l.datum, λ h. h)

block-keeps : (i : Block) (k : ℕ) (g : List ℕ) (f pc : ℕ) (l : Latches) (mem : Memory) (b : Bool)
    → Keeps g f mem (pick b (block_load_later i k g f l mem) (block_store_later i k g f pc l mem))
unfolding block_load_later block_store_later
block-keeps i zero g f pc l mem true = (block-base-length i g l.base, refl, λ h. h)
block-keeps i zero g f pc l mem false =
    let s = store-step-keeps 0 (block.named i.list) (block.with_base i g l.base) f pc l mem in
    (s.0 ∙ block-base-length i g l.base, s.1, s.2)
block-keeps i (suc k) g f pc l mem true = load-step-keeps k (drop k (block.named i.list)) g f l mem
block-keeps i (suc k) g f pc l mem false = store-step-keeps (suc k) (drop (suc k) (block.named i.list)) g f pc l mem

multiply-keeps : (i : Multiply) (k : ℕ) (g : List ℕ) (f : ℕ) (mem : Memory) → Keeps g f mem (multiply_later i k g f mem)
unfolding multiply_later
multiply-keeps i k g f mem = go (ltb (suc k) (m_of (rs_of i g))) (multiplied-keeps i g f)
  where
    go : (b : Bool) → KeepsOut g f (multiplied i g f) → Keeps g f mem (pick b (own g (still f (More (Later (suc k)))) mem) (multiply_last (m_of (rs_of i g)) (multiplied i g f) mem))
    go true o = (refl, refl, λ h. h)
    go false o = (o.0, refl, o.1)

later-keeps : (i : Instruction) (k : ℕ) (g : List ℕ) (f pc : ℕ) (l : Latches) (mem : Memory) → Keeps g f mem (later_step i k g f pc l mem)
unfolding later_step
later-keeps (Instruction.Processing i) k g f pc l mem = let p = processed-keeps i g f pc in (p.0, refl, p.1)
later-keeps (Instruction.Single i) k g f pc l mem = single-keeps i k g f l mem i.l
later-keeps (Instruction.Block i) k g f pc l mem = block-keeps i k g f pc l mem i.l
later-keeps (Instruction.Branch i) k g f pc l mem = (refl, refl, λ h. h)
later-keeps (Instruction.Multiply i) k g f pc l mem = multiply-keeps i k g f mem
later-keeps (Instruction.Other w) k g f pc l mem = (refl, refl, λ h. h)

pub own-keeps : (ph : Phase) (m : Machine) → Keeps m.registers m.control.flags (lent m) (own_of ph m)
unfolding own_of
own-keeps Refill1 m = (refl, refl, λ h. h)
own-keeps Refill2 m = (refl, refl, λ h. h)
own-keeps Step1 m = go (due m.control.pipe.ix m.control.flags)
  where
    go : (d : Due) → Keeps m.registers m.control.flags (lent m) (first_due d m)
    go no_word_there = (refl, refl, λ h. h)
    go skipped = (refl, refl, λ h. h)
    go (executes i) = first-keeps i m.registers m.control.flags m.control.pipe.pc (lent m)
own-keeps (Later k) m = go m.control.pipe.ix
  where
    go : (x : Option ℕ) → Keeps m.registers m.control.flags (lent m) (later_of k x m)
    go None = (refl, refl, λ h. h)
    go (Some w) = later-keeps (read_of w) k m.registers m.control.flags m.control.pipe.pc m.control.latches (lent m)

pub reach-alike : (m : Machine) (t : ℕ) → (length (reach m t).registers ≡ length m.registers) × (length (reach m t).memory ≡ length m.memory)
unfolding reach cycle
reach-alike m zero = (refl, refl)
reach-alike m (suc t) =
    let o = own-keeps (reach m t).control.phase (reach m t) in
    let s = reach-alike m t in
    (o.0 ∙ s.0, o.1 ∙ s.1)
