-- What the functions of `left` join.
-- Assumes nothing.
use Rattle.std.specs.Prelude.{ℕ}
use mathlib.Core.Path.{◌≡◌, sym, ap, ◌∙◌}
use Rattle.steps.specs.declared.Phase.{Phase}
use Rattle.cycle.specs.Machine.{Machine}
use Rattle.runs.specs.CyclesLeft.{left_in, cycles_left}

pub left_as : (m : Machine) {ph : Phase} {r : ℕ} → m.control.phase ≡ ph → r ≡ left_in ph m.control.pipe.ix m.registers → r ≡ cycles_left m
unfolding cycles_left
left_as m e q = q ∙ ap (λ (x : Phase). left_in x m.control.pipe.ix m.registers) (sym e)
