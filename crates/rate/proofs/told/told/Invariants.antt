-- After k turns the head and the lines of the first k options. Assumes nothing.
use Rattle.std.proofs.Common.{◌≡◌, ◌++◌, take}
use Rattle.rate.specs.Texts.{head, option_lines}
use Rattle.rate.proofs.told.told.Given as goal

abbrev pub invariant-loop-k : goal.invariant-loop-k
invariant-loop-k l = l.all.items ≡ head l.f ++ option_lines (take l.k l.r.options) l.f.verdicts
