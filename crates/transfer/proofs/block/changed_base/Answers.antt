use Rattle.std.proofs.Common.{arith}
use Rattle.transfer.proofs.NamedRegisters.{named-length}
use Rattle.transfer.specs.Block.{changed_base}
use Rattle.transfer.proofs.block.changed_base.Goals as goal

pub overflow_mul-count : goal.overflow_mul-count
overflow_mul-count c = omega (arith, c.count.ensures, named-length c.args.i.list)

pub returns : goal.returns
unfolding changed_base
returns c = simp (c.moved.ensures, c.count.ensures, c.base.ensures)
