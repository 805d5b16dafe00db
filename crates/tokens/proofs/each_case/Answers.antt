-- One more call found a case. Assumes nothing.
use Rattle.std.proofs.Common.{of_calls, ◌≡◌, ◌+◌, true, replicate, ◌++◌, ◌∷◌, [], sym}
use Rattle.std.proofs.lemmas.List.{replicate-append-replicate}
use Rattle.std.proofs.lemmas.Fn.{FoldsTo-push}
use Rattle.tokens.proofs.each_case.Goals as goal

pub loop-n-preserved : goal.loop-n-preserved
loop-n-preserved g c =
    let l = c.loop-n in
    let grown : replicate (l._n + 1) true ≡ replicate l._n true ++ (true ∷ []) = sym (replicate-append-replicate l._n 1 true) in
    (search (of_calls), rw grown (FoldsTo-push _ _ _ _ _ _ l.invariant.1 (rw c.if-not-case.false at c.case.ensures)))
