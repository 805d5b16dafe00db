-- The loop's invariant: what is left of both budgets, from here, comes to the whole, and the tally tells the sums so far. Assumes nothing.
use mathlib.Core.Path.{◌≡◌}
use lib.ListN.{length}
use Rattle.plain.specs.Whole.{wholes, going}
use Rattle.plain.proofs.WholeSteps.{Left}
use Rattle.plain.proofs.whole.wholes.Given as goal

abbrev pub invariant-loop-more : goal.invariant-loop-more
invariant-loop-more l =
    Left l.count l.budget (wholes l.count l.budget (going l.initial.registers l.from.flags l.from.a l.from.board l.initial.memory)) l.more l.left l.w (going l.registers l.status l.here l.from.board l.memory)
    × (length l.memory ≡ length l.initial.memory)

abbrev pub decreases-loop-more : goal.decreases-loop-more
decreases-loop-more l = l.more
