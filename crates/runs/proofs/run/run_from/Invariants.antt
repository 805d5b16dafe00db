-- The loop's invariant: what is left of the budget, run from here, is the run. Assumes nothing.
use mathlib.Core.Path.{◌≡◌}
use Prim.Native.Nat.{◌-◌}
use lib.ListN.{length}
use Rattle.cycle.specs.Machine.{machine}
use Rattle.runs.proofs.RunLoop.{Left}
use Rattle.runs.proofs.run.run_from.Given as goal

abbrev pub invariant-loop-used : goal.invariant-loop-used
invariant-loop-used l =
    Left l.budget (machine l.initial.registers l.initial.at l.initial.memory) l.used (machine l.registers l.at l.memory) × (length l.memory ≡ length l.initial.memory)

abbrev pub decreases-loop-used : goal.decreases-loop-used
decreases-loop-used l = l.budget - l.used
