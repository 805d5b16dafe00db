use Rattle.semantics.specs.Duration.{own_steps}
use Rattle.stops.specs.Rules.{rule_broken}
use Rattle.refusals.specs.Numbers.{bad_within}
use Rattle.refusals.proofs.UnderWay.{broken}
use Rattle.refusals.proofs.under_way.bad_block.Goals as goal

pub returns : goal.returns
unfolding bad_within rule_broken own_steps
returns c g mem = rw (c.outside.ensures, c.left.ensures, c.has_step.ensures, broken _ c.is_err.ensures.value c.block_rule.ensures, c.count-n.ensures, c.block_steps-steps.ensures)
