use Rattle.semantics.proofs.Results.{branch-done}
use Rattle.semantics.proofs.Tallies.{branch-raises}
use Rattle.semantics.proofs.perform.perform_branch.Goals as goal

pub returns : goal.returns
returns c = record {
  told = λ mem. branch-done _ _ c.done.ensures.told c.branch-left.ensures;
  tally = λ mem. branch-raises _ _ _ c.done.ensures.tally c.branch-left.ensures;
}
