use Rattle.std.proofs.Common.{sym, ◌∙◌}
use Rattle.stops.specs.Rules.{rule_broken}
use Rattle.stops.specs.Moves.{moves_of}
use Rattle.stops.specs.Stops.{stop_of}
use Rattle.stops.proofs.Joins.{block-clear}
use Rattle.stops.proofs.stop.block_stop.Goals as goal

pub returns-then-clear : goal.returns-then-clear
returns-then-clear c bytes =
    block-clear _ _ c.count.ensures c.lowest_address-first.ensures c.in_ok-block_rule.ensures (sym c.clear.ensures ∙ c.if-clear.true)

pub returns-else-clear : goal.returns-else-clear
unfolding rule_broken moves_of stop_of
returns-else-clear c bytes = simp (sym c.in_ok-block_rule.ensures, ← c.lowest_address-first.ensures) c.walk_stop.ensures
