-- No instruction takes more than 20 cycles.
-- Assumes nothing.
use Rattle.std.specs.Prelude.{Option, ℕ, Some, None}
use Rattle.std.proofs.Common.{◌≡◌, ℕ, ◌+◌, ◌≤◌, Bool, true, false, eqb, List, refl, suc-le-suc, arith}
use Rattle.bits.specs.Choice.{pick}
use Rattle.word.specs.declared.Processing.{Processing}
use Rattle.word.specs.declared.Single.{Single}
use Rattle.word.specs.declared.Block.{Block}
use Rattle.word.specs.declared.Multiply.{Multiply}
use Rattle.word.specs.declared.Instruction.{Instruction}
use Rattle.processing.specs.Processing.{by_register?}
use Rattle.multiply.proofs.InternalCycles.{m-bounds}
use Rattle.transfer.specs.Block.{count}
use Rattle.transfer.proofs.NamedRegisters.{named-length}
use Rattle.registers.specs.State.{State}
use Rattle.stops.specs.Stops.{Due, no_word_there, skipped, executes, due, stop_of}
use Rattle.semantics.specs.Effect.{effect_of}
use Rattle.semantics.specs.Duration.{processing_steps, single_steps, block_steps, multiply_steps, refills, own_steps}
use Rattle.semantics.specs.Perform.{executed, performed_due, performs}

pub refills-short : (t : Option ℕ) → refills t ≤ 2
refills-short None = omega arith
refills-short (Some w) = omega arith

either : (b : Bool) (m n : ℕ) → m ≤ 18 → n ≤ 18 → pick b m n ≤ 18
either true m n h k = h
either false m n h k = k

pub processing-short : (i : Processing) → processing_steps i ≤ 18
processing-short i = either (by_register? i.operand) 2 1 (omega arith) (omega arith)

pub single-short : (i : Single) → single_steps i ≤ 18
single-short i = either i.l 3 2 (omega arith) (omega arith)

pub block-short : (i : Block) → block_steps i ≤ 18
block-short i =
    either i.l (count i + 2) (count i + 1) (omega (arith, named-length i.list)) (omega (arith, named-length i.list))

pub multiply-short : (i : Multiply) (g : List ℕ) → multiply_steps i g ≤ 17
multiply-short i g = suc-le-suc (m-bounds _).1

pub steps-short : (i : Instruction) (g : List ℕ) → own_steps i g ≤ 18
unfolding own_steps
steps-short (Instruction.Processing i) g = processing-short i
steps-short (Instruction.Single i) g = single-short i
steps-short (Instruction.Block i) g = block-short i
steps-short (Instruction.Branch i) g = omega arith
steps-short (Instruction.Multiply i) g = omega (arith, multiply-short i g)
steps-short (Instruction.Other w) g = omega arith

pub performed-short : (x : Option ℕ) (s : State) → (performs x s).performed.cycles ≤ 20
unfolding performs executed
performed-short x s = go (due x s.status)
  where
    run : (i : Instruction) (b : Bool) → eqb (stop_of i s) 0 ≡ b → (executed i s).performed.cycles ≤ 20
    run i true e = rw e (omega (arith, steps-short i s.registers, refills-short (effect_of i s).out.goes))
    run i false e = rw e (omega arith)

    go : (d : Due) → (performed_due d s).performed.cycles ≤ 20
    go no_word_there = omega arith
    go skipped = omega arith
    go (executes i) = run i (eqb (stop_of i s) 0) refl
