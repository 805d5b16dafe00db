-- None so far carries. Assumes nothing.
use Rattle.std.proofs.Common.{◌≡◌, drop}
use Rattle.rate.specs.Figures.{chosen}
use Rattle.rate.proofs.choice.chosen.Given as goal

abbrev pub invariant-loop-k : goal.invariant-loop-k
invariant-loop-k l = chosen (drop l.k l.options) (drop l.k l.verdicts) ≡ chosen l.options l.verdicts
