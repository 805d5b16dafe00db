use mathlib.Core.Path.{sym, ◌∙◌}
use Rattle.watch.proofs.Bursts.{no-stores, single-loads, single-stores}
use Rattle.watch.proofs.due.single_burst.Goals as goal

pub returns-then-i-clause-value : goal.returns-then-i-clause-value
returns-then-i-clause-value c mem = c.from_second.ensures.value ∙ no-stores _ _ _ _ ∙ sym (single-loads c.args.i _ _ _ c.if-i.true)

pub returns-clause-value : goal.returns-clause-value
returns-clause-value c mem = c.from_second-2.ensures.value ∙ rw (c.address-address.ensures, c.r15.ensures.0, c.r15.ensures.1) (single-stores c.args.i _ _ _ _ c.if-i.false c.width.ensures)
