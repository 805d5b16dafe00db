-- Whole instructions so far, none of which met a stop, and their stores. Assumes nothing.
use Rattle.std.proofs.Common.{◌-◌, ◌≡◌, ◌≤◌, length}
use Rattle.plain.specs.Whole.{going}
use Rattle.semantics.specs.declared.Sums.{Sums}
use Rattle.semantics.specs.Sums.{ticks}
use Rattle.link.specs.Window.{handed}
use Rattle.stores.specs.Planned.{stores_of}
use Rattle.watch.specs.Told.{Tells}
use Rattle.watch.specs.Quick.{Goes}
use Rattle.watch.proofs.quick.tell_wholes.Given as goal

abbrev pub invariant-loop-left : goal.invariant-loop-left
invariant-loop-left l =
    Goes (going l.initial.registers l.fn.from.flags l.fn.from.a l.fn.from.board l.initial.memory) l.done (l.budget - l.left) l.tally (going l.registers l.flags l.a l.fn.from.board l.memory)
    × (l.left ≤ l.budget)
    × ((q : Sums) → l.ticked ≡ ticks q → Tells l.told l.initial.found l.count l.found (handed l.w (stores_of l.before q (going l.initial.registers l.fn.from.flags l.fn.from.a l.fn.from.board l.initial.memory) l.done)))
    × (l.count ≤ length l.found)
    × (length l.found ≡ length l.initial.found)
    × (length l.memory ≡ length l.initial.memory)

abbrev pub decreases-loop-left : goal.decreases-loop-left
decreases-loop-left l = l.left
