-- What the instruction under way has still to store: each cycle takes its own store off, and a boundary has none left.
-- Assumes nothing.
use Rattle.std.specs.Prelude.{Option, ℕ, Some, None}
use Prim.Native.Nat.{ℕ, zero, suc, ◌+◌, ◌-◌}
use mathlib.Core.Path.{◌≡◌, refl, sym, ap, ◌∙◌}
use mathlib.Core.List.{List, [], ◌∷◌, ◌++◌}
use mathlib.Core.Bool.{Bool, true, false}
use native.Mathlib.Omega.{arith}
use lib.ListN.{length, drop}
use Rattle.std.proofs.lemmas.List.{length-drop}
use Rattle.bits.specs.Choice.{pick}
use Rattle.word.specs.declared.Single.{Single}
use Rattle.word.specs.declared.Block.{Block}
use Rattle.word.specs.declared.Instruction.{Instruction}
use Rattle.word.specs.Reader.{read_of}
use Rattle.memory.specs.Memory.{Memory}
use Rattle.memory.specs.declared.Board.{Board}
use Rattle.transfer.specs.Block as block
use Rattle.semantics.specs.declared.Sums.{Sums}
use Rattle.semantics.specs.Sums.{ticks}
use Rattle.steps.specs.declared.Phase.{Phase}
use Rattle.steps.specs.declared.Phase.TheVariants.{Step1, Refill1, Refill2, Later}
use Rattle.steps.specs.declared.After.{After}
use Rattle.steps.specs.declared.After.TheVariants.{More, Done, Jump}
use Rattle.steps.specs.declared.Latches.{Latches}
use Rattle.steps.specs.Steps.{Own, later_step, load_later, store_later, block_load_later, store_step, block_store_later}
use Rattle.cycle.specs.declared.Pipe.{Pipe}
use Rattle.cycle.specs.declared.Counts.{Counts}
use Rattle.cycle.specs.Machine.{Machine, machine, lent, pipe}
use Rattle.cycle.specs.Cycle.{cycle, own_of, pipe_after, phase_after, sums_after}
use Rattle.cycle.specs.StopFound.{is_step1}
use Rattle.link.specs.declared.Store.{Store}
use Rattle.stores.specs.Writes.{left, width, burst, first_tick}
use Rattle.stores.specs.Coming.{first_of, told, coming, stored_by}

-- the stores from step k + 2 on, with this in the address latch, after so many cycles and the ticks of what retired
abbrev pub rest_of : Instruction → ℕ → ℕ → ℕ → ℕ → List Store
rest_of i k a cycles t = burst (left i k) (width i) a (suc cycles) (t + first_tick + k)

abbrev pub pending_in : Phase → Option ℕ → ℕ → ℕ → ℕ → List Store
pending_in Step1 x a cycles t = []
pending_in Refill1 x a cycles t = []
pending_in Refill2 x a cycles t = []
pending_in (Later k) None a cycles t = []
pending_in (Later k) (Some w) a cycles t = rest_of (read_of w) k a cycles t

unfoldable pub pending : Machine → List Store
pending m = pending_in m.control.phase m.control.pipe.ix m.control.latches.address m.control.counts.cycles (ticks m.control.counts.sums)

-- ---- a later step

-- what is to follow after it
abbrev pub following : Instruction → ℕ → ℕ → ℕ → After → List Store
following i a cycles t (More Step1) = []
following i a cycles t (More Refill1) = []
following i a cycles t (More Refill2) = []
following i a cycles t (More (Later j)) = rest_of i j a (suc cycles) t
following i a cycles t (Done e) = []
following i a cycles t (Jump w) = []

-- both are what was left
abbrev Goes : Instruction → ℕ → ℕ → ℕ → ℕ → Own → Type 0
Goes i k a cycles t o = rest_of i k a cycles t ≡ told (first_of (left i k) (width i) a) (suc cycles) (t + first_tick + k) ++ following i o.step.latches.address cycles t o.step.after

-- an instruction that stores nothing
pub none-follow : (i : Instruction) → ((k : ℕ) → left i k ≡ 0) → (a cycles t : ℕ) (e : After) → following i a cycles t e ≡ []
unfolding burst
none-follow i z a cycles t (More Step1) = refl
none-follow i z a cycles t (More Refill1) = refl
none-follow i z a cycles t (More Refill2) = refl
none-follow i z a cycles t (More (Later j)) = rw (z j) refl
none-follow i z a cycles t (Done e) = refl
none-follow i z a cycles t (Jump w) = refl

quiet : (i : Instruction) → ((k : ℕ) → left i k ≡ 0) → (k a cycles t : ℕ) (o : Own) → Goes i k a cycles t o
unfolding burst
quiet i z k a cycles t o = rw (z k) (sym (none-follow i z o.step.latches.address cycles t o.step.after))

single-goes : (i : Single) (k a cycles t : ℕ) (g : List ℕ) (f : ℕ) (l : Latches) (mem : Memory)
    → Goes (Instruction.Single i) k a cycles t (pick i.l (load_later i k g f l mem) (store_later i g f l mem))
single-goes i k a cycles t g f l mem = go i.l refl
  where
    go : (b : Bool) → i.l ≡ b → Goes (Instruction.Single i) k a cycles t (pick b (load_later i k g f l mem) (store_later i g f l mem))
    go true e = quiet (Instruction.Single i) (λ j. unfold left in rw e) k a cycles t (load_later i k g f l mem)
    go false e = wide i.b refl
      where
        wide : (c : Bool) → i.b ≡ c → Goes (Instruction.Single i) k a cycles t (store_later i g f l mem)
        wide true h = unfold left width burst store_later in rw (e, h)
        wide false h = unfold left width burst store_later in rw (e, h)

block-store-goes : (i : Block) → i.l ≡ false → (k cycles t : ℕ) (g : List ℕ) (f pc : ℕ) (l : Latches) (mem : Memory)
    → (r : List ℕ) → drop k (block.named i.list) ≡ r → Goes (Instruction.Block i) k l.address cycles t (store_step k r g f pc l mem)
unfolding left width burst store_step
block-store-goes i e k cycles t g f pc l mem [] d =
    let n : block.count i - k ≡ 0 = sym (length-drop k (block.named i.list)) ∙ ap length d in
    rw (e, n)
block-store-goes i e k cycles t g f pc l mem (x ∷ []) d =
    let n : block.count i - k ≡ 1 = sym (length-drop k (block.named i.list)) ∙ ap length d in
    rw (e, n)
block-store-goes i e k cycles t g f pc l mem (x ∷ (y ∷ ys)) d =
    let n : block.count i - k ≡ suc (suc (length ys)) = sym (length-drop k (block.named i.list)) ∙ ap length d in
    let m : block.count i - suc k ≡ suc (length ys) = omega arith in
    let s : suc (t + first_tick + k) ≡ t + first_tick + suc k = omega arith in
    rw (e, n, m, s)

block-goes : (i : Block) (k cycles t : ℕ) (g : List ℕ) (f pc : ℕ) (l : Latches) (mem : Memory)
    → Goes (Instruction.Block i) k l.address cycles t (pick i.l (block_load_later i k g f l mem) (block_store_later i k g f pc l mem))
block-goes i k cycles t g f pc l mem = go i.l refl k
  where
    go : (b : Bool) → i.l ≡ b → (k : ℕ) → Goes (Instruction.Block i) k l.address cycles t (pick b (block_load_later i k g f l mem) (block_store_later i k g f pc l mem))
    go true e k = quiet (Instruction.Block i) (λ j. unfold left in rw e) k l.address cycles t (block_load_later i k g f l mem)
    go false e zero = unfold block_store_later in block-store-goes i e 0 cycles t _ f pc l mem (block.named i.list) refl
    go false e (suc k) = unfold block_store_later in block-store-goes i e (suc k) cycles t g f pc l mem (drop (suc k) (block.named i.list)) refl

later-goes : (i : Instruction) (k cycles t : ℕ) (g : List ℕ) (f pc : ℕ) (l : Latches) (mem : Memory) → Goes i k l.address cycles t (later_step i k g f pc l mem)
unfolding later_step
later-goes (Instruction.Processing i) k cycles t g f pc l mem = quiet (Instruction.Processing i) (λ j. unfold left in refl) k l.address cycles t (later_step (Instruction.Processing i) k g f pc l mem)
later-goes (Instruction.Single i) k cycles t g f pc l mem = single-goes i k l.address cycles t g f l mem
later-goes (Instruction.Block i) k cycles t g f pc l mem = block-goes i k cycles t g f pc l mem
later-goes (Instruction.Branch i) k cycles t g f pc l mem = quiet (Instruction.Branch i) (λ j. unfold left in refl) k l.address cycles t (later_step (Instruction.Branch i) k g f pc l mem)
later-goes (Instruction.Multiply i) k cycles t g f pc l mem = quiet (Instruction.Multiply i) (λ j. unfold left in refl) k l.address cycles t (later_step (Instruction.Multiply i) k g f pc l mem)
later-goes (Instruction.Other w) k cycles t g f pc l mem = quiet (Instruction.Other w) (λ j. unfold left in refl) k l.address cycles t (later_step (Instruction.Other w) k g f pc l mem)

-- ---- of the core

-- what follows is pending in the next core
pub as-pending : (w : ℕ) (p : Pipe) → p.ix ≡ Some w → (cycles : ℕ) (q : Sums) (a : ℕ) (e : After)
    → following (read_of w) a cycles (ticks q) e ≡ pending_in (phase_after e) (pipe_after e p).ix a (suc cycles) (ticks (sums_after e (Some w) q))
as-pending w p x cycles q a (More Step1) = refl
as-pending w p x cycles q a (More Refill1) = refl
as-pending w p x cycles q a (More Refill2) = refl
as-pending w p x cycles q a (More (Later j)) = rw x
as-pending w p x cycles q a (Done e) = refl
as-pending w p x cycles q a (Jump v) = refl

-- of a core in its parts
module _ (g : List ℕ) (f pc : ℕ) (ir1 ir2 : Option ℕ) (l : Latches) (cs : Counts) (q : ℕ) (b : Board) (mem : List ℕ) where
  abbrev core : Phase → Option ℕ → Machine
  core ph x = machine g (record { flags = f; pipe = pipe pc ir1 ir2 x; phase = ph; latches = l; counts = cs; stop = q; board = b }) mem

  core-goes : (ph : Phase) (x : Option ℕ) → is_step1 ph ≡ false → pending (core ph x) ≡ stored_by (core ph x) ++ pending (cycle (core ph x))
  unfolding pending stored_by coming cycle own_of
  core-goes Step1 x z = cc
  core-goes Refill1 x z = refl
  core-goes Refill2 None z = refl
  core-goes Refill2 (Some w) z = refl
  core-goes (Later k) None z = refl
  core-goes (Later k) (Some w) z =
      let i = read_of w in
      let o = later_step i k g f pc l (lent (core (Later k) (Some w))) in
      later-goes i k cs.cycles (ticks cs.sums) g f pc l (lent (core (Later k) (Some w)))
      ∙ ap (λ (xs : List Store). told (first_of (left i k) (width i) l.address) (suc cs.cycles) (ticks cs.sums + first_tick + k) ++ xs)
      (as-pending w (pipe pc ir1 ir2 (Some w)) refl cs.cycles cs.sums o.step.latches.address o.step.after)

pub pending-goes : (m : Machine) → is_step1 m.control.phase ≡ false → pending m ≡ stored_by m ++ pending (cycle m)
pending-goes m z =
    let c = m.control in
    core-goes m.registers c.flags c.pipe.pc c.pipe.ir1 c.pipe.ir2 c.latches c.counts c.stop c.board m.memory c.phase c.pipe.ix z
