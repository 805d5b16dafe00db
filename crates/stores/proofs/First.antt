-- From a boundary: step 1 stores nothing, and what is then pending is what the plain machine's instruction writes.
-- Assumes nothing.
use Rattle.std.specs.Prelude.{Option, ℕ, Some, None}
use Prim.Native.Nat.{ℕ, suc, ◌+◌}
use mathlib.Core.Path.{◌≡◌, refl, sym, ◌∙◌}
use mathlib.Core.List.{[]}
use mathlib.Core.Bool.{Bool, true, false}
use native.Mathlib.Omega.{arith}
use Rattle.bits.specs.Bits.{field}
use Rattle.condition.specs.Condition.{passes}
use Rattle.word.specs.declared.Instruction.{Instruction}
use Rattle.word.specs.Reader.{read_of}
use Rattle.datapath.specs.Counter.{ahead}
use Rattle.memory.specs.Memory.{word_at}
use Rattle.registers.specs.State.{State}
use Rattle.stops.specs.Stops.{due, stop_for}
use Rattle.semantics.specs.Sums.{ticks}
use Rattle.plain.specs.Machine as plain
use Rattle.plain.specs.Trace.{stop_met}
use Rattle.steps.specs.declared.After.{After}
use Rattle.steps.specs.Steps.{Own, first_step}
use Rattle.cycle.specs.declared.Counts.{Counts}
use Rattle.cycle.specs.Machine.{pipe}
use Rattle.cycle.specs.Cycle.{cycle, own_of}
use Rattle.runs.specs.Boundary.{boundary}
use Rattle.runs.proofs.Instruction.{begin}
use Rattle.runs.proofs.PlainSteps.{stop_is}
use Rattle.stores.specs.Writes.{left, burst, first_address, first_tick, writes}
use Rattle.stores.specs.Coming.{coming, stored_by}
use Rattle.stores.specs.Planned.{writes_due, writes_at}
use Rattle.stores.proofs.Pending.{rest_of, pending, following, none-follow, as-pending}

-- a boundary stores nothing
pub boundary-stores : (p : plain.Machine) (n : Counts) → stored_by (boundary p n) ≡ []
unfolding boundary stored_by coming
boundary-stores p n = refl

pub none-written : (i : Instruction) → ((k : ℕ) → left i k ≡ 0) → (s : State) (cycles t : ℕ) → writes i s cycles t ≡ []
unfolding writes burst
none-written i z s cycles t = rw (z 0) refl

-- the stores of a transfer from its step 2 on are all of its stores
from-second : (i : Instruction) (s : State) (a cycles t : ℕ) → first_address i s ≡ a → rest_of i 0 a (suc cycles) t ≡ writes i s cycles t
unfolding writes
from-second i s a cycles t e =
    let c : suc (suc cycles) ≡ cycles + 2 = omega arith in
    let k : t + first_tick + 0 ≡ t + first_tick = omega arith in
    rw (c, k, ← e)

-- nor does an instruction that stores nothing leave anything pending
storeless : (i : Instruction) → ((k : ℕ) → left i k ≡ 0) → (s : State) (a cycles t : ℕ) (e : After) → following i a cycles t e ≡ writes i s cycles t
storeless i z s a cycles t e = none-follow i z a cycles t e ∙ sym (none-written i z s cycles t)

-- step 1
abbrev first_own : Instruction → State → Own
first_own i s = first_step i s.registers s.status (ahead s.a 8) s.memory

first-goes : (i : Instruction) (s : State) (cycles t : ℕ) → following i (first_own i s).step.latches.address cycles t (first_own i s).step.after ≡ writes i s cycles t
first-goes (Instruction.Processing i) s cycles t =
    let z : (k : ℕ) → left (Instruction.Processing i) k ≡ 0 = λ k. unfold left in refl in
    storeless (Instruction.Processing i) z s (first_own (Instruction.Processing i) s).step.latches.address cycles t (first_own (Instruction.Processing i) s).step.after
first-goes (Instruction.Single i) s cycles t = unfold first_step in from-second (Instruction.Single i) s _ cycles t (unfold first_address in refl)
first-goes (Instruction.Block i) s cycles t = unfold first_step in from-second (Instruction.Block i) s _ cycles t (unfold first_address in refl)
first-goes (Instruction.Branch i) s cycles t =
    let z : (k : ℕ) → left (Instruction.Branch i) k ≡ 0 = λ k. unfold left in refl in
    storeless (Instruction.Branch i) z s (first_own (Instruction.Branch i) s).step.latches.address cycles t (first_own (Instruction.Branch i) s).step.after
first-goes (Instruction.Multiply i) s cycles t =
    let z : (k : ℕ) → left (Instruction.Multiply i) k ≡ 0 = λ k. unfold left in refl in
    storeless (Instruction.Multiply i) z s (first_own (Instruction.Multiply i) s).step.latches.address cycles t (first_own (Instruction.Multiply i) s).step.after
first-goes (Instruction.Other w) s cycles t =
    let z : (k : ℕ) → left (Instruction.Other w) k ≡ 0 = λ k. unfold left in refl in
    storeless (Instruction.Other w) z s (first_own (Instruction.Other w) s).step.latches.address cycles t (first_own (Instruction.Other w) s).step.after

-- a core about to do step 1 of what was fetched
begins : (x : Option ℕ) (s : State) (n : Counts) → stop_for x s ≡ 0 → pending (cycle (begin x s n)) ≡ writes_due (due x s.status) s n.cycles (ticks n.sums)
unfolding pending cycle own_of due stop_for
begins None s n e = absurd (omega arith)
begins (Some w) s n e = go (passes (field w 28 4) s.status) refl
  where
    go : (b : Bool) → passes (field w 28 4) s.status ≡ b → pending (cycle (begin (Some w) s n)) ≡ writes_due (due (Some w) s.status) s n.cycles (ticks n.sums)
    go true h =
        let o = first_own (read_of w) s in
        rw h (sym (as-pending w (pipe (ahead (ahead s.a 8) 4) (word_at s.memory (ahead s.a 8)) (word_at s.memory (ahead s.a 4)) (Some w)) refl n.cycles n.sums o.step.latches.address o.step.after)
        ∙ first-goes (read_of w) s n.cycles (ticks n.sums))
    go false h = rw h

-- from the boundary of a plain machine that meets no stop
pub first-pending : (p : plain.Machine) (n : Counts) → stop_met p ≡ 0 → pending (cycle (boundary p n)) ≡ writes_at p n.cycles (ticks n.sums)
unfolding writes_at boundary
first-pending p n e = rw e (begins (word_at (plain.state_of p).memory p.plain.a) (plain.state_of p) n (sym (stop_is p) ∙ e))
