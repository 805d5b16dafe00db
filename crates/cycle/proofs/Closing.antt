-- The next core, of what the functions of `cycle` did.
-- Assumes nothing.
use mathlib.Core.Path.{◌≡◌, ap, ◌∙◌}
use Rattle.steps.specs.Steps.{Own}
use Rattle.cycle.specs.declared.Pipe.{Pipe}
use Rattle.cycle.specs.Machine.{Machine, lent}
use Rattle.cycle.specs.Cycle.{own_of, fetches, close, cycle}

pub closed : (m : Machine) {n : Machine} {o : Own} {p : Pipe}
    → o ≡ own_of m.control.phase m → p ≡ fetches m.control.phase m.control.pipe (lent m) → n ≡ close o p m.control → n ≡ cycle m
unfolding cycle
closed m {p = p} e h q =
    q ∙ ap (λ (x : Own). close x p m.control) e
    ∙ ap (λ (x : Pipe). close (own_of m.control.phase m) x m.control) h
