-- What is told and what is left are the burst; there is room for what is left. Assumes nothing.
use Rattle.std.proofs.Common.{◌≡◌, ◌+◌, ◌-◌, ◌≤◌, length}
use Rattle.watch.proofs.Telling.{Left}
use Rattle.watch.proofs.tell.tell_burst.Given as goal

abbrev pub invariant-loop-left : goal.invariant-loop-left
invariant-loop-left l =
    Left l.w l.told l.initial.found l.count l.found (l.n - l._left) l.e l.n l.fn.first
    × (l.count ≤ l.told + l._left)
    × (length l.found ≡ length l.initial.found)
    × (l.e.cycle ≡ l.fn.first.cycle + l._left)
    × (l.e.tick ≡ l.fn.first.tick + l._left)
    × (l.told ≤ l.count)
