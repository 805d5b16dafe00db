use mathlib.Core.Path.{refl, sym, ◌∙◌}
use Rattle.cycle.proofs.StopFound.{is-step1}
use Rattle.cycle.proofs.OneStep.{adds-s}
use Rattle.cycle.proofs.cycle.sums_executed.Goals as goal

pub returns-then-is_step1 : goal.returns-then-is_step1
returns-then-is_step1 c = adds-s _ c.nsi.ensures (c.requires.0 _ (is-step1 _ (sym c.is_step1.ensures ∙ c.if-is_step1.true)) refl)
