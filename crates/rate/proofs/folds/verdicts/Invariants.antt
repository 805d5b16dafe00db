-- After k turns the first k are told. Assumes nothing.
use Rattle.std.proofs.Common.{◌≡◌, ◌-◌, List, ◌++◌, take, replicate}
use Rattle.link.specs.declared.Store.{Store}
use Rattle.rate.specs.Figures.{verdicts_on, no_verdict}
use Rattle.rate.specs.Folds.{Taken}
use Rattle.rate.proofs.folds.verdicts.Given as goal

abbrev pub invariant-loop-k : goal.invariant-loop-k
invariant-loop-k l = (es : List Store) → Taken l.r l.buffers es → l.told ≡ verdicts_on l.r es (take l.k l.r.options) ++ replicate (32 - l.k) no_verdict
