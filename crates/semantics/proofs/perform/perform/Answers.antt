use Rattle.semantics.proofs.Tallies.{passing-raises, failing-raises}
use Rattle.std.proofs.Common.{sym, ◌∙◌}
use Rattle.semantics.proofs.perform.perform.Goals as goal

pub returns-then-passes-clause-tally : goal.returns-then-passes-clause-tally
returns-then-passes-clause-tally c = passing-raises _ _ _ (rw c.field.ensures at (sym c.passes.ensures ∙ c.if-passes.true)) c.execute.ensures.tally

pub returns-else-passes-clause-tally : goal.returns-else-passes-clause-tally
returns-else-passes-clause-tally c = failing-raises _ _ _ (rw c.field.ensures at (sym c.passes.ensures ∙ c.if-passes.false))
