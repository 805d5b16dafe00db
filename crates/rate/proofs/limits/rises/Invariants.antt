-- What is left decides. Assumes nothing.
use Rattle.std.proofs.Common.{◌≡◌, drop}
use Rattle.rate.specs.Request.{rises}
use Rattle.rate.proofs.limits.rises.Given as goal

abbrev pub invariant-loop-option : goal.invariant-loop-option
invariant-loop-option l = rises l.last (drop l.option-index l.options) ≡ rises 0 l.options
