use mathlib.Core.Path.{sym, ◌∙◌}
use native.Mathlib.Omega.{arith}
use Rattle.transfer.proofs.NamedRegisters.{named-length}
use Rattle.watch.proofs.Bursts.{no-stores, block-loads, block-stores}
use Rattle.watch.proofs.due.block_burst.Goals as goal

pub returns-then-i-clause-value : goal.returns-then-i-clause-value
returns-then-i-clause-value c mem = c.from_second.ensures.value ∙ no-stores _ _ _ _ ∙ sym (block-loads c.args.i _ _ _ c.if-i.true)

pub returns-clause-value : goal.returns-clause-value
returns-clause-value c mem = c.from_second-2.ensures.value ∙ rw c.lowest_address.ensures (block-stores c.args.i _ _ _ _ c.if-i.false c.count.ensures)

pub returns-clause-number : goal.returns-clause-number
returns-clause-number c = omega (arith, c.from_second-2.ensures.number, c.count.ensures, named-length c.args.i.list)
