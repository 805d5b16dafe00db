use mathlib.Core.Path.{sym, ◌∙◌}
use Rattle.watch.proofs.Telling.{passed-by, told-one}
use Rattle.watch.proofs.tell.tell.Goals as goal

pub returns-then-not-within-clause-tells : goal.returns-then-not-within-clause-tells
returns-then-not-within-clause-tells c = passed-by _ _ _ _ (sym c.within.ensures ∙ c.if-not-within.true)

pub returns-clause-tells : goal.returns-clause-tells
returns-clause-tells c = told-one _ _ _ _ c.requires (sym c.within.ensures ∙ c.if-not-within.false)
