-- The loop's invariant: what is left of the budget, run from here, is the run. Assumes nothing.
use mathlib.Core.Path.{refl, sym, ◌∙◌}
use native.Mathlib.Omega.{arith}
use Rattle.stops.proofs.Numbers.{some_number}
use Rattle.plain.proofs.Running as running
use Rattle.runs.specs.Run.{engine}
use Rattle.runs.proofs.RunLoop.{left-start, left_step}
use Rattle.runs.proofs.QuickRoad.{left-skip}
use borrow.Author.Rules.{rules}
use Rattle.runs.proofs.run.run_from.Goals as goal

pub loop-used-init : goal.loop-used-init
loop-used-init c = (left-start _ _ c.requires.0 c.requires.1 c.requires.2, refl)

pub overflow_add-used : goal.overflow_add-used
overflow_add-used c = record { fits = omega (arith, (left-skip c.loop-used.invariant.0 c.skip-far.ensures).left.sum, c.requires.0) }

pub returns-in-Err : goal.returns-in-Err
returns-in-Err c =
    running.left-stop engine (left-skip c.loop-used.invariant.0 c.skip-far.ensures).left c.if-used-budget.true (rw c.into.ensures) (sym (c.in-Err.ensures _)) (some_number _)

pub cycle-at-requires : goal.cycle-at-requires
cycle-at-requires c =
    let l = left-skip c.loop-used.invariant.0 c.skip-far.ensures in
    (omega (arith, l.room), omega (arith, l.room, l.behind), (omega (arith, l.timed), omega (arith, l.timed), omega (arith, l.timed)))

pub loop-used-preserved-then-used-budget : goal.loop-used-preserved-then-used-budget
loop-used-preserved-then-used-budget c = (left_step (left-skip c.loop-used.invariant.0 c.skip-far.ensures) c.if-used-budget.true c.cycle-at.ensures (sym (c.in_default.ensures _)), c.cycle-at.auto.memory ∙ c.skip-far.auto.memory ∙ c.loop-used.invariant.1)

pub loop-used-preserved : goal.loop-used-preserved
loop-used-preserved c = (left-skip c.loop-used.invariant.0 c.skip-far.ensures, search rules)

pub returns : goal.returns
returns c = running.left-done engine c.loop-used.invariant.0.left (omega (arith, c.loop-used-test.false))
