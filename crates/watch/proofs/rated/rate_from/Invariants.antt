-- The run so far, and the summary of its stores. Assumes nothing.
use Rattle.std.proofs.Common.{◌-◌, ◌≡◌, length}
use Rattle.cycle.specs.Machine.{machine}
use Rattle.watch.proofs.Pieces.{Rating}
use Rattle.watch.proofs.rated.rate_from.Given as goal

abbrev pub invariant-loop-used : goal.invariant-loop-used
invariant-loop-used l =
    Rating l.budget l.w l.initial.summary (machine l.initial.registers l.initial.at l.initial.memory) l.used (machine l.registers l.at l.memory) l.summary
    × (length l.memory ≡ length l.initial.memory)
    × (length l.found ≡ 256)

abbrev pub decreases-loop-used : goal.decreases-loop-used
decreases-loop-used l = l.budget - l.used
