-- After i stores it is their summary. Assumes nothing.
use Rattle.std.proofs.Common.{◌≡◌, take}
use Rattle.link.specs.Summary.{summed}
use Rattle.link.proofs.summaries.summed.Given as goal

abbrev pub invariant-loop-e : goal.invariant-loop-e
invariant-loop-e l = l.sum ≡ summed l.initial.sum (take l.e-index l.es)
