use mathlib.Core.Path.{refl}
use Rattle.word.specs.declared.Instruction.{Instruction}
use Rattle.semantics.specs.Duration.{own_steps}
use Rattle.stops.specs.Rules.{rule_broken}
use Rattle.refusals.specs.Numbers.{state_later}
use Rattle.refusals.proofs.UnderWay.{broken, unmoved}
use Rattle.refusals.proofs.under_way.bad_processing.Goals as goal

pub returns : goal.returns
unfolding rule_broken own_steps
returns c m = unmoved (Instruction.Processing _) _ m refl refl (broken _ c.is_err.ensures.value (c.processing_rule.ensures (state_later m))) c.processing_steps-steps.ensures c.has_step.ensures
