-- The run so far, and the stores told. Assumes nothing.
use Rattle.std.proofs.Common.{◌-◌, ◌≡◌, ◌≤◌, length}
use Rattle.cycle.specs.Machine.{machine}
use Rattle.watch.proofs.Watching.{Watching}
use Rattle.watch.proofs.run.watch_from.Given as goal

abbrev pub invariant-loop-used : goal.invariant-loop-used
invariant-loop-used l =
    Watching l.budget (machine l.initial.registers l.initial.at l.initial.memory) l.w l.found l.told l.used (machine l.registers l.at l.memory)
    × (l.used ≤ l.budget)
    × (length l.memory ≡ length l.initial.memory)
    × (length l.found ≡ length l.initial.found)

abbrev pub decreases-loop-used : goal.decreases-loop-used
decreases-loop-used l = l.budget - l.used
