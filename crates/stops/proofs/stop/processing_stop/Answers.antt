use Rattle.std.proofs.Common.{arith, sym}
use Rattle.std.proofs.lemmas.Grind.{common_steps}
use Rattle.stops.specs.Rules.{rule_broken}
use Rattle.stops.specs.Moves.{moves_of}
use Rattle.stops.specs.Walk.{walk}
use Rattle.stops.specs.Stops.{stop_of}
use Rattle.stops.proofs.stop.processing_stop.Goals as goal

pub returns-in_err-processing_rule : goal.returns-in_err-processing_rule
unfolding rule_broken moves_of walk stop_of
returns-in_err-processing_rule c s = let h = c.in_err-processing_rule.ensures s in grind (arith, common_steps, h)

pub returns : goal.returns
unfolding rule_broken moves_of walk stop_of
returns c s = simp (sym (c.in_ok-processing_rule.ensures s))
