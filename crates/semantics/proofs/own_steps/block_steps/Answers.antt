use Rattle.std.proofs.Common.{arith}
use Rattle.transfer.proofs.NamedRegisters.{named-length}
use Rattle.semantics.proofs.own_steps.block_steps.Goals as goal

pub overflow_add-result : goal.overflow_add-result
overflow_add-result c = record { fits = omega (arith, c.count-n.ensures, named-length c.args.i.list) }

pub overflow_add-result-else-i : goal.overflow_add-result-else-i
overflow_add-result-else-i c = record { fits = omega (arith, c.count-n.ensures, named-length c.args.i.list) }
