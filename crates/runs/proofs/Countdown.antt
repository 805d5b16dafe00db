-- The cycles left: each cycle away from a boundary takes one of them, and at a boundary there are none.
-- Assumes nothing.
use Rattle.std.specs.Prelude.{Option, ℕ, Some, None}
use Prim.Native.Nat.{ℕ, zero, suc, ◌+◌, ◌-◌, ◌≤◌, ◌<◌}
use mathlib.Core.Path.{◌≡◌, refl, sym, ap, ◌∙◌}
use mathlib.Core.List.{List, [], ◌∷◌}
use mathlib.Core.Bool.{Bool, true, false, not}
use mathlib.Core.Logic.{◌≢◌}
use native.Mathlib.Omega.{arith}
use lib.Dec.{ltb}
use lib.ListN.{length, drop}
use lib.Seq.{drop-nil}
use borrow.Author.Tests.{ltb-false}
use Rattle.bits.specs.Choice.{pick}
use Rattle.bits.specs.Bits.{bit}
use Rattle.word.specs.declared.Processing.{Processing}
use Rattle.word.specs.declared.Single.{Single}
use Rattle.word.specs.declared.Block.{Block}
use Rattle.word.specs.declared.Multiply.{Multiply}
use Rattle.word.specs.declared.Instruction.{Instruction}
use Rattle.word.specs.Reader.{read_of}
use Rattle.memory.specs.Memory.{Memory}
use Rattle.memory.specs.declared.Board.{Board}
use Rattle.registers.specs.Registers.{arrives}
use Rattle.processing.specs.Processing.{processed, by_register?}
use Rattle.multiply.specs.Multiply.{rs_of, multiplied}
use Rattle.multiply.specs.InternalCycles.{m_of}
use Rattle.transfer.specs.Block as block
use Rattle.semantics.specs.Duration.{own_steps, refills, stores_counter, duration_of}
use Rattle.semantics.proofs.StoredCounters.{arriving, processed-refills, block-loading}
use Rattle.steps.specs.declared.Phase.{Phase}
use Rattle.steps.specs.declared.Phase.TheVariants.{Step1, Refill1, Refill2, Later}
use Rattle.steps.specs.declared.After.{After}
use Rattle.steps.specs.declared.After.TheVariants.{More, Done, Jump}
use Rattle.steps.specs.declared.Latches.{Latches}
use Rattle.steps.specs.Steps.{Own, own, ends, still, last, multiply_last, later_step, load_later, store_later, load_step, block_load_later, store_step, block_store_later, multiply_later}
use Rattle.cycle.specs.declared.Pipe.{Pipe}
use Rattle.cycle.specs.declared.Counts.{Counts}
use Rattle.cycle.specs.Machine.{Machine, machine, lent, pipe}
use Rattle.cycle.specs.Cycle.{cycle, own_of, pipe_after, phase_after}
use Rattle.runs.specs.CyclesLeft.{left_in, cycles_left, InStep, Countdown}
use Rattle.runs.proofs.Instruction.{extra, own-steps, drop-count}

-- ---- what a step from 2 on leaves of its instruction's duration

-- the step goes on with the next, and the duration stays; or it was the last, alone or before the refills
abbrev Less : Instruction → ℕ → List ℕ → Own → After → Type 0
Less i k g o (More Step1) = ⊥
Less i k g o (More Refill1) = ⊥
Less i k g o (More Refill2) = ⊥
Less i k g o (More (Later j)) = (j ≡ suc k) × (own_steps i o.registers ≡ own_steps i g)
Less i k g o (Done e) = duration_of i g ≡ 2 + k
Less i k g o (Jump w) = duration_of i g ≡ 4 + k

abbrev LessOwn : Instruction → ℕ → List ℕ → Own → Type 0
LessOwn i k g o = Less i k g o o.step.after

lasts : (i : Instruction) (g : List ℕ) → duration_of i g ≡ suc (extra i g) + pick (stores_counter i) 2 0
unfolding duration_of
lasts i g = rw (own-steps i g)

-- the last own step
last_less : (i : Instruction) (k : ℕ) (g : List ℕ) (o : Own) (e : Option ℕ) → extra i g ≡ suc k → refills e ≡ pick (stores_counter i) 2 0 → Less i k g o (ends e)
last_less i k g o None x r = omega (arith, lasts i g)
last_less i k g o (Some w) x r = omega (arith, lasts i g)

-- a list that is nothing but what was dropped
drop-none : (l : List ℕ) (k : ℕ) → drop k l ≡ [] → length l ≤ k
drop-none [] k e = omega arith
drop-none (x ∷ xs) zero e = absurd (omega (arith, ap length e))
drop-none (x ∷ xs) (suc k) e = omega (arith, drop-none xs k e)

-- the last register of a block load decides its refills
last-loaded : (f : ℕ) (mem : Memory) (xs : List ℕ) (k x : ℕ) (g : List ℕ) (a : ℕ) → drop k xs ≡ x ∷ [] → refills (block.loads xs g f a mem).goes ≡ pick (not (ltb x 15)) 2 0
unfolding block.loads
last-loaded f mem [] k x g a d = let n = drop-nil {A = ℕ} k in cc
last-loaded f mem (y ∷ []) zero x g a d = let e : y ≡ x = cc in rw (← e) (arriving g f y _)
last-loaded f mem (y ∷ []) (suc k) x g a d = let n = drop-nil {A = ℕ} k in cc
last-loaded f mem (y ∷ (z ∷ zs)) zero x g a d = cc
last-loaded f mem (y ∷ (z ∷ zs)) (suc k) x g a d = last-loaded f mem (z ∷ zs) k x _ _ d

pub load-refills : (i : Block) (k x : ℕ) (g : List ℕ) (f v : ℕ) (mem : Memory) → drop k (block.named i.list) ≡ x ∷ [] → refills (arrives g f x v).goes ≡ pick (bit i.list 15) 2 0
load-refills i k x g f v mem d = arriving g f x v ∙ sym (last-loaded f mem (block.named i.list) k x g 0 d) ∙ block-loading i f mem g 0

processing-less : (i : Processing) (k : ℕ) (g : List ℕ) (f pc : ℕ) (mem : Memory) → k < extra (Instruction.Processing i) g → LessOwn (Instruction.Processing i) k g (last (processed i g f pc) mem)
processing-less i k g f pc mem h =
    last_less (Instruction.Processing i) k g (last (processed i g f pc) mem) (processed i g f pc).goes (go (by_register? i.operand) h) (processed-refills i g f pc)
  where
    go : (b : Bool) → k < pick b 1 0 → pick b 1 0 ≡ suc k
    go true h = omega arith
    go false h = absurd (omega arith)

single-load-less : (i : Single) → i.l ≡ true → (k : ℕ) (g : List ℕ) (f : ℕ) (l : Latches) (mem : Memory) → k < extra (Instruction.Single i) g
    → LessOwn (Instruction.Single i) k g (load_later i k g f l mem)
unfolding load_later own_steps stores_counter
single-load-less i e zero g f l mem h = (refl, refl)
single-load-less i e (suc k) g f l mem h =
    last_less (Instruction.Single i) (suc k) g (load_later i (suc k) g f l mem) (arrives g f i.rd l.datum).goes (rw e (let h₂ = rw e at h in omega arith)) (rw e (arriving g f i.rd l.datum))

single-store-less : (i : Single) → i.l ≡ false → (k : ℕ) (g : List ℕ) (f : ℕ) (l : Latches) (mem : Memory) → k < extra (Instruction.Single i) g
    → LessOwn (Instruction.Single i) k g (store_later i g f l mem)
unfolding store_later stores_counter
single-store-less i e k g f l mem h = last_less (Instruction.Single i) k g (store_later i g f l mem) None (rw e (let h₂ = rw e at h in omega arith)) (rw e)

load-less : (i : Block) → i.l ≡ true → (k : ℕ) (g : List ℕ) (f : ℕ) (l : Latches) (mem : Memory) → k < block.count i
    → (r : List ℕ) → drop k (block.named i.list) ≡ r → LessOwn (Instruction.Block i) (suc k) g (load_step k r g f l mem)
unfolding load_step own_steps stores_counter
load-less i e k g f l mem h [] d = absurd (omega (arith, drop-none (block.named i.list) k d))
load-less i e k g f l mem h (x ∷ []) d =
    let c = drop-count (block.named i.list) k x [] d in
    last_less (Instruction.Block i) (suc k) g (load_step k (x ∷ []) g f l mem) (arrives g f x l.datum).goes (rw e (omega (arith, c))) (rw e (load-refills i k x g f l.datum mem d))
load-less i e k g f l mem h (x ∷ (y ∷ ys)) d = (refl, refl)

block-load-less : (i : Block) → i.l ≡ true → (k : ℕ) (g : List ℕ) (f : ℕ) (l : Latches) (mem : Memory) → k < extra (Instruction.Block i) g
    → LessOwn (Instruction.Block i) k g (block_load_later i k g f l mem)
unfolding block_load_later own_steps
block-load-less i e zero g f l mem h = (refl, refl)
block-load-less i e (suc k) g f l mem h = load-less i e k g f l mem (let h₂ = rw e at h in omega arith) (drop k (block.named i.list)) refl

store-less : (i : Block) → i.l ≡ false → (k : ℕ) (g g' : List ℕ) (f pc : ℕ) (l : Latches) (mem : Memory) → k < block.count i
    → (r : List ℕ) → drop k (block.named i.list) ≡ r → LessOwn (Instruction.Block i) k g (store_step k r g' f pc l mem)
unfolding store_step own_steps stores_counter
store-less i e k g g' f pc l mem h [] d = absurd (omega (arith, drop-none (block.named i.list) k d))
store-less i e k g g' f pc l mem h (x ∷ []) d =
    let c = drop-count (block.named i.list) k x [] d in
    last_less (Instruction.Block i) k g (store_step k (x ∷ []) g' f pc l mem) None (rw e (omega (arith, c))) (rw e)
store-less i e k g g' f pc l mem h (x ∷ (y ∷ ys)) d = (refl, refl)

block-store-less : (i : Block) → i.l ≡ false → (k : ℕ) (g : List ℕ) (f pc : ℕ) (l : Latches) (mem : Memory) → k < extra (Instruction.Block i) g
    → LessOwn (Instruction.Block i) k g (block_store_later i k g f pc l mem)
unfolding block_store_later
block-store-less i e zero g f pc l mem h = store-less i e 0 g _ f pc l mem (rw e at h) (block.named i.list) refl
block-store-less i e (suc k) g f pc l mem h = store-less i e (suc k) g g f pc l mem (rw e at h) (drop (suc k) (block.named i.list)) refl

multiply-less : (i : Multiply) (k : ℕ) (g : List ℕ) (f : ℕ) (mem : Memory) → k < extra (Instruction.Multiply i) g → LessOwn (Instruction.Multiply i) k g (multiply_later i k g f mem)
unfolding multiply_later
multiply-less i k g f mem h = go (ltb (suc k) (m_of (rs_of i g))) refl
  where
    go : (b : Bool) → ltb (suc k) (m_of (rs_of i g)) ≡ b → LessOwn (Instruction.Multiply i) k g (pick b (own g (still f (More (Later (suc k)))) mem) (multiply_last (m_of (rs_of i g)) (multiplied i g f) mem))
    go true e = (refl, refl)
    go false e =
        let m : m_of (rs_of i g) ≤ suc k = ltb-false _ _ e in
        unfold multiplied in last_less (Instruction.Multiply i) k g (multiply_last (m_of (rs_of i g)) (multiplied i g f) mem) None (omega arith) (unfold stores_counter in refl)

later-less : (i : Instruction) (k : ℕ) (g : List ℕ) (f pc : ℕ) (l : Latches) (mem : Memory) → k < extra i g → LessOwn i k g (later_step i k g f pc l mem)
unfolding later_step
later-less (Instruction.Processing i) k g f pc l mem h = processing-less i k g f pc mem h
later-less (Instruction.Single i) k g f pc l mem h = go i.l refl
  where
    go : (b : Bool) → i.l ≡ b → LessOwn (Instruction.Single i) k g (pick b (load_later i k g f l mem) (store_later i g f l mem))
    go true e = single-load-less i e k g f l mem h
    go false e = single-store-less i e k g f l mem h
later-less (Instruction.Block i) k g f pc l mem h = go i.l refl
  where
    go : (b : Bool) → i.l ≡ b → LessOwn (Instruction.Block i) k g (pick b (block_load_later i k g f l mem) (block_store_later i k g f pc l mem))
    go true e = block-load-less i e k g f l mem h
    go false e = block-store-less i e k g f pc l mem h
later-less (Instruction.Branch i) k g f pc l mem h = absurd (omega arith)
later-less (Instruction.Multiply i) k g f pc l mem h = multiply-less i k g f mem h
later-less (Instruction.Other w) k g f pc l mem h = absurd (omega arith)

-- ---- of the core

-- the cycles left after such a step
left_after : (w k : ℕ) (g : List ℕ) (o : Own) (e : After) (p : Pipe) → k < extra (read_of w) g → p.ix ≡ Some w → Less (read_of w) k g o e
    → duration_of (read_of w) g - suc k ≡ suc (left_in (phase_after e) (pipe_after e p).ix o.registers)
left_after w k g o (More Step1) p h x z = absurd z
left_after w k g o (More Refill1) p h x z = absurd z
left_after w k g o (More Refill2) p h x z = absurd z
left_after w k g o (More (Later j)) p h x (i, s) = rw (x, i) (unfold duration_of in omega (arith, own-steps (read_of w) g))
left_after w k g o (Done e) p h x z = omega arith
left_after w k g o (Jump v) p h x z = omega arith

-- of a core in its parts
module _ (g : List ℕ) (f pc : ℕ) (ir1 ir2 : Option ℕ) (l : Latches) (cs : Counts) (q : ℕ) (b : Board) (mem : List ℕ) where
  abbrev core : Phase → Option ℕ → Machine
  core ph x = machine g (record { flags = f; pipe = pipe pc ir1 ir2 x; phase = ph; latches = l; counts = cs; stop = q; board = b }) mem

  core-less : (ph : Phase) (x : Option ℕ) → ph ≢ Step1 → InStep ph x g → cycles_left (core ph x) ≡ suc (cycles_left (cycle (core ph x)))
  unfolding cycles_left cycle own_of
  core-less Step1 x s z = absurd (s refl)
  core-less Refill1 x s z = refl
  core-less Refill2 x s z = refl
  core-less (Later k) None s z = absurd z
  core-less (Later k) (Some w) s z =
      let m = core (Later k) (Some w) in
      let h : k < extra (read_of w) g = omega (arith, own-steps (read_of w) g) in
      let o = later_step (read_of w) k g f pc l (lent m) in
      left_after w k g o o.step.after m.control.pipe h refl (later-less (read_of w) k g f pc l (lent m) h)

pub countdown : Countdown
unfolding cycles_left
countdown = record {
  none = λ m e. ap (λ (ph : Phase). left_in ph m.control.pipe.ix m.registers) e;
  one_less = λ m s z.
      let c = m.control in
      core-less m.registers c.flags c.pipe.pc c.pipe.ir1 c.pipe.ir2 c.latches c.counts c.stop c.board m.memory c.phase c.pipe.ix s z;
}
