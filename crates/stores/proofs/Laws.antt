-- Laws of the stores: the last one of an instruction is in its last cycle and tick; on every record a cycle writes what is told and nothing else.
-- Assumes nothing.
use Rattle.std.specs.Prelude.{Option, ℕ, Some, None}
use Prim.Native.Nat.{ℕ, zero, suc, ◌+◌, ◌-◌}
use mathlib.Core.Path.{◌≡◌, refl, sym, ap, subst, ◌∙◌}
use mathlib.Core.List.{List, [], ◌∷◌}
use mathlib.Core.Logic.{◌≢◌}
use mathlib.Core.Bool.{Bool, true, false}
use native.Mathlib.Omega.{arith}
use lib.Dec.{ltb}
use lib.ListN.{length, drop}
use Rattle.std.proofs.lemmas.List.{length-drop}
use Rattle.bits.specs.Choice.{pick}
use Rattle.word.specs.declared.Single.{Single}
use Rattle.word.specs.declared.Block.{Block}
use Rattle.word.specs.declared.Instruction.{Instruction}
use Rattle.word.specs.Reader.{read_of}
use Rattle.memory.specs.declared.Board.{Board}
use Rattle.memory.specs.Memory.{Memory}
use Rattle.processing.specs.Processing.{processed, by_register?}
use Rattle.multiply.specs.Multiply.{rs_of, multiplied}
use Rattle.multiply.specs.InternalCycles.{m_of}
use Rattle.transfer.specs.Single as single
use Rattle.transfer.specs.Block as block
use Rattle.semantics.specs.Sums.{ticks, sums_of}
use Rattle.semantics.specs.Duration.{own_steps, stores_counter}
use Rattle.steps.specs.declared.Phase.{Phase}
use Rattle.steps.specs.declared.Phase.TheVariants.{Step1, Refill1, Refill2, Later}
use Rattle.steps.specs.declared.Latches.{Latches}
use Rattle.steps.specs.declared.After.TheVariants.{More}
use Rattle.steps.specs.Steps.{own, still, last, multiply_last, first_step, later_step, load_later, store_later, load_step, block_load_later, store_step, block_store_later, multiply_later}
use Rattle.stops.specs.Stops.{Due, no_word_there, skipped, executes, due}
use Rattle.cycle.specs.declared.Counts.{Counts}
use Rattle.cycle.specs.Machine.{Machine, machine, lent, pipe}
use Rattle.cycle.specs.Cycle.{cycle, own_of, first_due}
use Rattle.registers.specs.State.{State}
use Rattle.link.specs.declared.Store.{Store}
use Rattle.link.specs.Window.{store}
use Rattle.stores.specs.Writes.{left, width, place, burst, first_address, writes}
use Rattle.stores.specs.Coming.{first_of, coming, written, WritesSo}
use Rattle.stores.specs.Planned.{last_store, LastStores}

last-cycle : (i : Instruction) (g : List ℕ) (n : ℕ) → left i 0 ≡ suc n → 2 + n ≡ own_steps i g
unfolding left own_steps
last-cycle (Instruction.Processing i) g n e = absurd (omega arith)
last-cycle (Instruction.Single i) g n e = go i.l e
  where
    go : (b : Bool) → pick b 0 1 ≡ suc n → 2 + n ≡ pick b 3 2
    go true e = absurd (omega arith)
    go false e = omega arith
last-cycle (Instruction.Block i) g n e = go i.l e
  where
    go : (b : Bool) → pick b 0 (block.count i - 0) ≡ suc n → 2 + n ≡ pick b (block.count i + 2) (block.count i + 1)
    go true e = absurd (omega arith)
    go false e = omega arith
last-cycle (Instruction.Branch i) g n e = absurd (omega arith)
last-cycle (Instruction.Multiply i) g n e = absurd (omega arith)
last-cycle (Instruction.Other w) g n e = absurd (omega arith)

last-tick : (i : Instruction) (m n : ℕ) → left i 0 ≡ suc n → 4 + n ≡ ticks (sums_of i m)
unfolding left sums_of stores_counter
last-tick (Instruction.Processing i) m n e = absurd (omega arith)
last-tick (Instruction.Single i) m n e = go i.l refl
  where
    go : (b : Bool) → i.l ≡ b → 4 + n ≡ ticks (sums_of (Instruction.Single i) m)
    go true h = absurd (let z : 0 ≡ suc n = rw h at e in omega arith)
    go false h = let z : 1 ≡ suc n = rw h at e in rw h (omega arith)
last-tick (Instruction.Block i) m n e = go i.l refl
  where
    go : (b : Bool) → i.l ≡ b → 4 + n ≡ ticks (sums_of (Instruction.Block i) m)
    go true h = absurd (let z : 0 ≡ suc n = rw h at e in omega arith)
    go false h = let z : block.count i - 0 ≡ suc n = rw h at e in rw h (omega arith)
last-tick (Instruction.Branch i) m n e = absurd (omega arith)
last-tick (Instruction.Multiply i) m n e = absurd (omega arith)
last-tick (Instruction.Other w) m n e = absurd (omega arith)

-- the last of a burst
last-of : (n b a cycle tick : ℕ) (d : Store) → ((last_store d (burst (suc n) b a cycle tick)).cycle ≡ cycle + n) × ((last_store d (burst (suc n) b a cycle tick)).tick ≡ tick + n)
unfolding last_store burst
last-of zero b a cycle tick d = (omega arith, omega arith)
last-of (suc n) b a cycle tick d =
    let l = last-of n b (block.next a) (suc cycle) (suc tick) (store cycle tick (place b a) b) in
    (omega (arith, l.0), omega (arith, l.1))

pub last-stores : LastStores
unfolding writes
last-stores = record {
  cycle = λ i s c t d z. at-cycle i s c t d (left i 0) refl z;
  tick = λ i s c t m d z. at-tick i s c t m d (left i 0) refl z;
}
  where
    at-cycle : (i : Instruction) (s : State) (c t : ℕ) (d : Store) (n : ℕ) → left i 0 ≡ n → n ≢ 0
        → (last_store d (burst (left i 0) (width i) (first_address i s) (c + 2) (t + 4))).cycle ≡ c + own_steps i s.registers
    at-cycle i s c t d zero e z = absurd (z refl)
    at-cycle i s c t d (suc n) e z = rw e (omega (arith, (last-of n (width i) (first_address i s) (c + 2) (t + 4) d).0, last-cycle i s.registers n e))

    at-tick : (i : Instruction) (s : State) (c t m : ℕ) (d : Store) (n : ℕ) → left i 0 ≡ n → n ≢ 0
        → (last_store d (burst (left i 0) (width i) (first_address i s) (c + 2) (t + 4))).tick ≡ t + ticks (sums_of i m)
    at-tick i s c t m d zero e z = absurd (z refl)
    at-tick i s c t m d (suc n) e z = rw e (omega (arith, (last-of n (width i) (first_address i s) (c + 2) (t + 4) d).1, last-tick i m n e))

-- ---- what a cycle writes

-- of a core in its parts
module _ (g : List ℕ) (f pc : ℕ) (ir1 ir2 : Option ℕ) (l : Latches) (cs : Counts) (q : ℕ) (b : Board) (mem : List ℕ) where
  abbrev core : Phase → Option ℕ → Machine
  core ph x = machine g (record { flags = f; pipe = pipe pc ir1 ir2 x; phase = ph; latches = l; counts = cs; stop = q; board = b }) mem

  -- the memory after step k + 2 of an instruction
  abbrev Writes : Option ℕ → Instruction → ℕ → Memory → Type 0
  Writes x i k new = new.bytes ≡ written (first_of (left i k) (width i) l.address).bytes (core (Later k) x)

  abbrev there : Memory
  there = lent (core Step1 None)

  storing : (x : Option ℕ) (i : Block) → i.l ≡ false → (k : ℕ) (h : List ℕ) (r : List ℕ) → drop k (block.named i.list) ≡ r → Writes x (Instruction.Block i) k (store_step k r h f pc l there).memory
  unfolding left width store_step
  storing v i e k h [] d =
      let n : block.count i - k ≡ 0 = sym (length-drop k (block.named i.list)) ∙ ap length d in
      rw (e, n)
  storing v i e k h (x ∷ []) d =
      let n : block.count i - k ≡ 1 = sym (length-drop k (block.named i.list)) ∙ ap length d in
      rw (e, n)
  storing v i e k h (x ∷ (y ∷ ys)) d =
      let n : block.count i - k ≡ suc (suc (length ys)) = sym (length-drop k (block.named i.list)) ∙ ap length d in
      rw (e, n)

  loading : (k : ℕ) (h : List ℕ) (r : List ℕ) → (load_step k r h f l there).memory.bytes ≡ mem
  unfolding load_step
  loading k h [] = refl
  loading k h (x ∷ []) = refl
  loading k h (x ∷ (y ∷ ys)) = refl

  load-keeps : (i : Single) (k : ℕ) → (load_later i k g f l there).memory.bytes ≡ mem
  unfolding load_later
  load-keeps i zero = refl
  load-keeps i (suc k) = refl

  block-load-keeps : (i : Block) (k : ℕ) → (block_load_later i k g f l there).memory.bytes ≡ mem
  unfolding block_load_later
  block-load-keeps i zero = refl
  block-load-keeps i (suc k) = loading k g (drop k (block.named i.list))

  later-writes : (x : Option ℕ) (i : Instruction) (k : ℕ) → Writes x i k (later_step i k g f pc l there).memory
  unfolding later_step left
  later-writes x (Instruction.Processing i) k = refl
  later-writes x (Instruction.Single i) k = go i.l i.b refl refl
    where
      At : Bool → Bool → Type 0
      At t w = (pick t (load_later i k g f l there) (store_later i g f l there)).memory.bytes ≡ written (first_of (pick t 0 1) (pick w 1 4) l.address).bytes (core (Later k) x)

      go : (t w : Bool) → i.l ≡ t → i.b ≡ w → Writes x (Instruction.Single i) k (pick i.l (load_later i k g f l there) (store_later i g f l there)).memory
      go true w e h = unfold left width in subst (λ t. At t i.b) (sym e) (load-keeps i k)
      go false true e h = unfold left width store_later single.stored_to in subst (λ t. At t i.b) (sym e) (rw h)
      go false false e h = unfold left width store_later single.stored_to in subst (λ t. At t i.b) (sym e) (rw h)
  later-writes x (Instruction.Block i) k = go i.l k refl
    where
      At : ℕ → Bool → Type 0
      At k t = (pick t (block_load_later i k g f l there) (block_store_later i k g f pc l there)).memory.bytes ≡ written (first_of (left (Instruction.Block i) k) (width (Instruction.Block i)) l.address).bytes (core (Later k) x)

      go : (c : Bool) (k : ℕ) → i.l ≡ c → At k i.l
      go true k e = subst (At k) (sym e) (block-load-keeps i k ∙ sym (unfold left in ap (λ t. written (first_of (pick t 0 (block.count i - k)) (width (Instruction.Block i)) l.address).bytes (core (Later k) x)) e))
      go false zero e = subst (At 0) (sym e) (unfold block_store_later in storing x i e 0 _ (block.named i.list) refl)
      go false (suc k) e = subst (At (suc k)) (sym e) (unfold block_store_later in storing x i e (suc k) g (drop (suc k) (block.named i.list)) refl)
  later-writes x (Instruction.Branch i) k = refl
  later-writes x (Instruction.Multiply i) k = unfold multiply_later in go (ltb (suc k) (m_of (rs_of i g)))
    where
      go : (c : Bool) → (pick c (own g (still f (More (Later (suc k)))) there) (multiply_last (m_of (rs_of i g)) (multiplied i g f) there)).memory.bytes ≡ mem
      go true = refl
      go false = refl
  later-writes x (Instruction.Other w) k = refl

  first-keeps : (i : Instruction) → (first_step i g f pc there).memory.bytes ≡ mem
  unfolding first_step
  first-keeps (Instruction.Processing i) = go (by_register? i.operand)
    where
      go : (c : Bool) → (pick c (own g (still f (More (Later 0))) there) (last (processed i g f pc) there)).memory.bytes ≡ mem
      go true = refl
      go false = refl
  first-keeps (Instruction.Single i) = refl
  first-keeps (Instruction.Block i) = refl
  first-keeps (Instruction.Branch i) = refl
  first-keeps (Instruction.Multiply i) = refl
  first-keeps (Instruction.Other w) = refl

  core-writes : (ph : Phase) (x : Option ℕ) → (cycle (core ph x)).memory ≡ written (coming (core ph x)).bytes (core ph x)
  unfolding cycle own_of coming
  core-writes Step1 x = go (due x f)
    where
      go : (d : Due) → (first_due d (core Step1 x)).memory.bytes ≡ mem
      go no_word_there = refl
      go skipped = refl
      go (executes i) = first-keeps i
  core-writes Refill1 x = refl
  core-writes Refill2 x = refl
  core-writes (Later k) None = refl
  core-writes (Later k) (Some w) = later-writes (Some w) (read_of w) k

pub writes-so : WritesSo
writes-so m =
    let c = m.control in
    core-writes m.registers c.flags c.pipe.pc c.pipe.ir1 c.pipe.ir2 c.latches c.counts c.stop c.board m.memory c.phase c.pipe.ix
