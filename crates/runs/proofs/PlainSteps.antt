-- The plain machine's step in terms of what is due at A, and the instruction lemma said of it.
-- Assumes nothing.
use Rattle.std.specs.Prelude.{Option, ℕ, Some, None}
use Prim.Native.Nat.{ℕ, zero, suc, ◌+◌, ◌≤◌, ◌<◌}
use mathlib.Core.Path.{◌≡◌, refl, sym, ◌∙◌}
use mathlib.Core.Bool.{Bool, true, false, not, ◌||◌}
use mathlib.Core.Logic.{◌⊎◌, inl, inr}
use native.Mathlib.Omega.{arith}
use lib.Dec.{eqb}
use Rattle.bits.specs.Choice.{pick}
use Rattle.word.specs.declared.Instruction.{Instruction}
use Rattle.word.specs.Reader.{is_other}
use Rattle.datapath.specs.Counter.{ahead, counters}
use Rattle.datapath.proofs.Counters.{ahead-lt, behind-ahead, counter-lt}
use Rattle.memory.specs.Memory.{word_at}
use Rattle.registers.specs.State.{State}
use Rattle.transfer.proofs.Lengths.{stored-to-alike, stores-all-alike}
use Rattle.stops.specs.Rules.{rule_broken}
use Rattle.stops.specs.Moves.{moved_by, stored_by}
use Rattle.stops.proofs.Walks.{stop-was}
use Rattle.stops.specs.Stops as stops
use Rattle.stops.specs.Stops.{Due, no_word_there, skipped, executes, due, stop_due, stop_for}
use Rattle.semantics.specs.Effect as effects
use Rattle.semantics.specs.Effect.{Effect}
use Rattle.semantics.specs.Duration.{refills, next_address}
use Rattle.semantics.specs.Perform.{executed, performed_due, performs}
use Rattle.semantics.proofs.Durations.{refills-short, steps-short}
use Rattle.semantics.proofs.Stopped.{stopped-unchanged}
use Rattle.plain.specs.Machine as plain
use Rattle.semantics.specs.Sums.{executed_sums, sums_due, performs_sums}
use Rattle.plain.specs.Trace.{stop_met, duration, adds}
use Rattle.memory.specs.Lengths.{most_bytes}
use Rattle.cycle.specs.StopFound.{stop_found}
use Rattle.cycle.specs.Cycle.{cycle}
use Rattle.runs.specs.Boundary.{boundary}
use Rattle.cycle.specs.declared.Counts.{Counts}
use Rattle.runs.proofs.Flight.{Flight, climb, more, retiring, plain_at}
use Rattle.runs.proofs.Instruction.{own-steps, leaves, extra_due, effect_due, sums_done, flies}

abbrev word_of : plain.Machine → Option ℕ
word_of p = word_at (plain.state_of p).memory p.plain.a

abbrev due_at : plain.Machine → Due
due_at p = due (word_of p) p.plain.flags

abbrev effect_of : plain.Machine → Effect
effect_of p = effect_due (due_at p) (plain.state_of p)

-- the stop met is that of the word at A
pub stop_is : (p : plain.Machine) → stop_met p ≡ stop_for (word_of p) (plain.state_of p)
unfolding stop_met plain.performed_at
stop_is p = (stopped-unchanged (word_of p) (plain.state_of p)).stop

-- what is due, done: its effect in its duration
module _ (s : State) where
  due-step : (d : Due) → stop_due d s ≡ 0 → plain.after (performed_due d s) ≡ plain_at (leaves s (effect_due d s))
  unfolding executed
  due-step no_word_there e = absurd (omega arith)
  due-step skipped e = refl
  due-step (executes i) e = rw e

  due-sums : (d : Due) → stop_due d s ≡ 0 → sums_done d s ≡ sums_due d s
  unfolding executed_sums
  due-sums no_word_there e = absurd (omega arith)
  due-sums skipped e = refl
  due-sums (executes i) e = rw e

  due-duration : (d : Due) → stop_due d s ≡ 0 → (performed_due d s).performed.cycles ≡ suc (extra_due d s) + refills (effect_due d s).out.goes
  unfolding executed
  due-duration no_word_there e = absurd (omega arith)
  due-duration skipped e = refl
  due-duration (executes i) e = rw (e, own-steps i s.registers)

  due-short : (d : Due) → extra_due d s + refills (effect_due d s).out.goes ≤ 19
  due-short no_word_there = omega arith
  due-short skipped = omega arith
  due-short (executes i) = omega (arith, own-steps i s.registers, steps-short i s.registers, refills-short (effects.effect_of i s).out.goes)

module _ (p : plain.Machine) (e : stop_met p ≡ 0) where
  stops-not : stop_due (due_at p) (plain.state_of p) ≡ 0
  unfolding stop_for
  stops-not = sym (stop_is p) ∙ e

  pub step_is : plain.step p ≡ plain_at (leaves (plain.state_of p) (effect_of p))
  unfolding plain.step plain.performed_at performs
  step_is = due-step (plain.state_of p) (due_at p) stops-not

  adds-is : sums_done (due_at p) (plain.state_of p) ≡ adds p
  unfolding adds performs_sums
  adds-is = due-sums (plain.state_of p) (due_at p) stops-not

  duration-is : duration p ≡ suc (extra_due (due_at p) (plain.state_of p)) + refills (effect_of p).out.goes
  unfolding duration plain.performed_at performs
  duration-is = due-duration (plain.state_of p) (due_at p) stops-not

-- the cycles after the first of the instruction at hand
unfoldable pub flight : plain.Machine → ℕ
flight p = more (extra_due (due_at p) (plain.state_of p)) (refills (effect_of p).out.goes)

more-add : (n m : ℕ) → more n m ≡ n + m
more-add zero m = omega arith
more-add (suc n) m = omega (arith, more-add n m)

pub duration-flight : (p : plain.Machine) → stop_met p ≡ 0 → duration p ≡ suc (flight p)
unfolding flight
duration-flight p e = omega (arith, duration-is p e, more-add (extra_due (due_at p) (plain.state_of p)) (refills (effect_of p).out.goes))

pub flight-short : (p : plain.Machine) → flight p ≤ 19
unfolding flight
flight-short p = omega (arith, more-add (extra_due (due_at p) (plain.state_of p)) (refills (effect_of p).out.goes), due-short (plain.state_of p) (due_at p))

-- from the boundary of a plain machine that meets no stop, its instruction's cycles come to the boundary of its step
pub instruction : (p : plain.Machine) (n : Counts) → p.plain.a < counters → p.plain.board.size ≤ most_bytes → stop_met p ≡ 0
    → Flight n 3 (flight p) (cycle (boundary p n)) (boundary (plain.step p) (retiring (climb (flight p) (suc n.cycles)) (adds p) n))
unfolding flight
instruction p n r l e = rw (step_is p e, ← adds-is p e) (unfold boundary in flies (word_of p) (plain.state_of p) n r l (sym (stop_is p) ∙ e))

-- on a boundary the core finds the stop that the plain machine meets
pub boundary-stop : (p : plain.Machine) (n : Counts) → p.plain.a < counters → stop_found (boundary p n) ≡ stop_met p
unfolding stop_found boundary
boundary-stop p n h = rw (behind-ahead p.plain.a h) (sym (stop_is p))

-- ---- ranges that a step keeps

pub next-lt : (a : ℕ) (t : Option ℕ) → next_address a t < counters
next-lt a None = ahead-lt a 4
next-lt a (Some w) = counter-lt w

pub step_range : (p : plain.Machine) → p.plain.a < counters → (plain.step p).plain.a < counters
unfolding plain.step plain.performed_at performs
step_range p h = go (due_at p)
  where
    s : State
    s = plain.state_of p

    run : (i : Instruction) (b : Bool) → eqb (stops.stop_of i s) 0 ≡ b → (executed i s).performed.next < counters
    run i true e = unfold executed in rw e (next-lt s.a (effects.effect_of i s).out.goes)
    run i false e = unfold executed in rw e h

    go : (d : Due) → (performed_due d s).performed.next < counters
    go no_word_there = h
    go skipped = ahead-lt s.a 4
    go (executes i) = run i (eqb (stops.stop_of i s) 0) refl

-- the board stays
pub step-board : (p : plain.Machine) → (plain.step p).plain.board ≡ p.plain.board
unfolding plain.step plain.performed_at performs
step-board p = go (due_at p)
  where
    s : State
    s = plain.state_of p

    kept : (i : Instruction) → (effects.effect_of i s).memory.board ≡ s.memory.board
    kept (Instruction.Processing i) = unfold effects.effect_of in refl
    kept (Instruction.Single i) = unfold effects.effect_of in ways i.l
      where
        ways : (b : Bool) → (pick b (effects.load_effect i s) (effects.store_effect i s)).memory.board ≡ s.memory.board
        ways true = unfold effects.load_effect in refl
        ways false = unfold effects.store_effect in (stored-to-alike i s.memory _ _).board
    kept (Instruction.Block i) = unfold effects.effect_of in ways i.l
      where
        ways : (b : Bool) → (pick b (effects.block_load_effect i s) (effects.block_store_effect i s)).memory.board ≡ s.memory.board
        ways true = unfold effects.block_load_effect in refl
        ways false = unfold effects.block_store_effect in (stores-all-alike _ _ _ _ _ _ s.memory).board
    kept (Instruction.Branch i) = unfold effects.effect_of in refl
    kept (Instruction.Multiply i) = unfold effects.effect_of in refl
    kept (Instruction.Other w) = unfold effects.effect_of in refl

    run : (i : Instruction) (b : Bool) → eqb (stops.stop_of i s) 0 ≡ b → (executed i s).memory.board ≡ s.memory.board
    run i true e = unfold executed in rw e (kept i)
    run i false e = unfold executed in rw e

    go : (d : Due) → (performed_due d s).memory.board ≡ s.memory.board
    go no_word_there = refl
    go skipped = refl
    go (executes i) = run i (eqb (stops.stop_of i s) 0) refl

-- ---- a stop met is 21 to 25

abbrev pub Stop : ℕ → Type 0
Stop q = (q ≡ 0) ⊎ ((21 ≤ q) × (q ≤ 25))

among : (b : Bool) (q m : ℕ) → 21 ≤ q → q ≤ 25 → Stop m → Stop (pick b q m)
among true q m h k o = inr (h, k)
among false q m h k o = o

pub stop-for : (x : Option ℕ) (s : State) → Stop (stop_for x s)
unfolding stop_for stops.moved_stop
stop-for x s = go (due x s.status)
  where
    go : (d : Due) → Stop (stop_due d s)
    go no_word_there = inr (omega arith, omega arith)
    go skipped = inl refl
    go (executes i) =
        let stored = stored_by i s in
        let board = s.memory.board in
        rw (stop-was i s)
        (among (is_other i) 22 _ (omega arith) (omega arith)
        (among (not (eqb (rule_broken i s) 0)) 23 _ (omega arith) (omega arith)
        (among (stops.outside (moved_by i s) board) 24 _ (omega arith) (omega arith)
        (among (stops.hits stored (ahead s.a 4) board || stops.hits stored (ahead s.a 8) board) 25 0 (omega arith) (omega arith) (inl refl)))))

pub stop-met : (p : plain.Machine) → Stop (stop_met p)
stop-met p = rw (stop_is p) (stop-for (word_of p) (plain.state_of p))
