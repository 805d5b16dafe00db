-- What is executed in step 1 alone adds S: it is processing without a shift by register, and stores no counter.
-- Assumes nothing.
use Rattle.std.specs.Prelude.{Option, ℕ, Some, None}
use Prim.Native.Nat.{ℕ, ◌+◌}
use native.Mathlib.Nat.{add-zero}
use mathlib.Core.Path.{◌≡◌, refl, sym, ap, ◌∙◌}
use mathlib.Core.List.{List}
use mathlib.Core.Bool.{Bool, true, false}
use native.Mathlib.Omega.{arith}
use Rattle.bits.specs.Choice.{pick}
use Rattle.bits.specs.Bits.{field}
use Rattle.condition.specs.Condition.{passes}
use Rattle.word.specs.declared.Processing.{Processing}
use Rattle.word.specs.declared.Instruction.{Instruction}
use Rattle.word.specs.Reader.{read_of}
use Rattle.memory.specs.Memory.{Memory}
use Rattle.processing.specs.Processing.{by_register?, processed}
use Rattle.semantics.specs.Branch.{branched}
use Rattle.semantics.specs.Duration.{refills, stores_counter}
use Rattle.semantics.specs.declared.Sums.{Sums}
use Rattle.semantics.specs.Sums.{nsi, plus, processed_sums, refill_sums, sums_of}
use Rattle.semantics.proofs.StoredCounters.{processed-refills}
use Rattle.stops.specs.Stops.{skipped, executes, due}
use Rattle.steps.specs.declared.Phase.{Phase}
use Rattle.steps.specs.declared.Phase.TheVariants.{Step1, Later}
use Rattle.steps.specs.declared.Ended.{Ended}
use Rattle.steps.specs.declared.Ended.TheVariants.{Executed}
use Rattle.steps.specs.declared.After.{After}
use Rattle.steps.specs.declared.After.TheVariants.{More, Done}
use Rattle.steps.specs.Steps.{own, ends, still, last, first_step}
use Rattle.cycle.specs.Machine.{Machine, lent}
use Rattle.cycle.specs.Cycle.{first_due, own_of, ended_sums}
use Rattle.cycle.specs.Room.{InOneStep}

-- in the end of a step
abbrev Adds : Instruction → After → Type 0
Adds i e = (m : ℕ) → e ≡ Done (Executed m) → sums_of i m ≡ processed_sums

-- where the counter goes on none is stored
alone : (i : Processing) (goes : Option ℕ) → refills goes ≡ pick (stores_counter (Instruction.Processing i)) 2 0 → by_register? i.operand ≡ false → Adds (Instruction.Processing i) (ends goes)
unfolding sums_of
alone i None r b m e = rw b (go (stores_counter (Instruction.Processing i)) r)
  where
    go : (s : Bool) → refills None ≡ pick s 2 0 → pick s (plus processed_sums refill_sums) processed_sums ≡ processed_sums
    go true r = absurd (omega arith)
    go false r = refl
alone i (Some w) r b m e = cc

first : (i : Instruction) (g : List ℕ) (f pc : ℕ) (mem : Memory) → Adds i (first_step i g f pc mem).step.after
unfolding first_step
first (Instruction.Processing i) g f pc mem m e = go (by_register? i.operand) refl e
  where
    go : (b : Bool) → by_register? i.operand ≡ b → (pick b (own g (still f (More (Later 0))) mem) (last (processed i g f pc) mem)).step.after ≡ Done (Executed m)
        → sums_of (Instruction.Processing i) m ≡ processed_sums
    go true b e = cc
    go false b e = alone i (processed i g f pc).goes (processed-refills i g f pc) b m e
first (Instruction.Single i) g f pc mem m e = cc
first (Instruction.Block i) g f pc mem m e = cc
first (Instruction.Branch i) g f pc mem m e = unfold branched in cc
first (Instruction.Multiply i) g f pc mem m e = cc
first (Instruction.Other w) g f pc mem m e = unfold sums_of in refl

step1 : (m : Machine) (k : ℕ) → (own_of Step1 m).step.after ≡ Done (Executed k) → ended_sums (Executed k) m.control.pipe.ix ≡ processed_sums
unfolding own_of due
step1 m k e = go m.control.pipe.ix e
  where
    go : (x : Option ℕ) → (first_due (due x m.control.flags) m).step.after ≡ Done (Executed k) → ended_sums (Executed k) x ≡ processed_sums
    go None e = cc
    go (Some w) e = passing (passes (field w 28 4) m.control.flags) e
      where
        passing : (b : Bool) → (first_due (pick b (executes (read_of w)) skipped) m).step.after ≡ Done (Executed k) → sums_of (read_of w) k ≡ processed_sums
        passing true e = first (read_of w) m.registers m.control.flags m.control.pipe.pc (lent m) k e
        passing false e = cc

pub one-step : (m : Machine) (e : Ended) → (own_of m.control.phase m).step.after ≡ Done e → InOneStep m.control.phase e m.control.pipe.ix
one-step m e h k p q = rw q (step1 m k (ap (λ (x : Phase). (own_of x m).step.after) (sym p) ∙ h ∙ ap Done q))

-- and so S is added
pub adds-s : (q : Sums) {r e : Sums} → r ≡ nsi q.n (q.s + 1) q.i → e ≡ processed_sums → r ≡ plus q e
adds-s q h x = h ∙ rw (x, add-zero q.n, add-zero q.i)
