use mathlib.Core.Path.{sym, ap, ◌∙◌}
use Rattle.memory.specs.Memory.{memory_of}
use Rattle.steps.specs.Steps.{Own}
use Rattle.cycle.specs.Machine.{machine}
use Rattle.cycle.proofs.Closing.{closed}
use Rattle.cycle.proofs.OneStep.{one-step}
use Rattle.cycle.proofs.cycle.cycle.Goals as goal

pub close-requires : goal.close-requires
close-requires c = (
  λ e h. one-step (machine c.args.registers.now c.args.c c.args.memory.now) e (ap (λ (o : Own). o.step.after) (sym c.phase_done-done.ensures.step) ∙ h),
  c.requires,
)

pub returns : goal.returns
returns c = closed _ c.phase_done-done.ensures.step c.phase_done-done.ensures.pipe (c.close.ensures _ (memory_of c.args.c.board _))
