use Rattle.steps.specs.Steps.{later_step}
use Rattle.steps.proofs.later.later_step.Goals as goal

pub returns-in-Processing : goal.returns-in-Processing
unfolding later_step
returns-in-Processing c = rw (← c.read.ensures, c.in-Processing.is, c.later_processing.ensures _, c.r15.ensures.0, c.r15.ensures.1)
