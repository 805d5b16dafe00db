use Rattle.std.proofs.Common.{arith}
use Rattle.memory.specs.Memory.{limit}
use Rattle.transfer.proofs.NamedRegisters.{named-length}
use Rattle.stops.proofs.walk.walk.Goals as goal

pub overflow_add-looked : goal.overflow_add-looked
overflow_add-looked c = omega (arith, c.loop-n.invariant.1, named-length c.args.list)

pub overflow_cast-at : goal.overflow_cast-at
unfolding limit
overflow_cast-at c = omega arith
