-- So many calls found a case. Assumes nothing.
use Rattle.std.proofs.Common.{true, replicate}
use Rattle.std.specs.List.{FoldsTo}
use Rattle.tokens.proofs.each_case.Given as goal

abbrev pub invariant-loop-n : goal.invariant-loop-n
invariant-loop-n g l = goal.F-IsAlwaysCallable g l.case × FoldsTo (λ p found q. goal.F-step g p found q) l.initial.case (replicate l._n true) l.case
