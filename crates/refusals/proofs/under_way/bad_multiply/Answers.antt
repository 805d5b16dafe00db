use mathlib.Core.Path.{refl}
use Rattle.word.specs.declared.Instruction.{Instruction}
use Rattle.semantics.specs.Duration.{own_steps}
use Rattle.stops.specs.Rules.{rule_broken}
use Rattle.refusals.proofs.UnderWay.{broken, unmoved}
use Rattle.refusals.proofs.under_way.bad_multiply.Goals as goal

pub returns : goal.returns
unfolding rule_broken own_steps
returns c mem = unmoved (Instruction.Multiply _) _ _ refl refl (broken _ c.is_err.ensures.value c.multiply_rule.ensures) c.multiply_steps-steps.ensures c.has_step.ensures
