use mathlib.Core.Path.{ap}
use native.Mathlib.Omega.{arith}
use lib.ListN.{length, length-drop}
use Rattle.transfer.specs.Block.{named}
use Rattle.transfer.proofs.NamedRegisters.{named-length}
use Rattle.steps.proofs.blocks.load_step.Goals as goal

pub load_more-requires : goal.load_more-requires
load_more-requires c = (omega (arith, c.count.ensures, ap length c.dropped-left.ensures.result_value, length-drop c.args.k (named c.args.list), named-length c.args.list), omega (arith, c.count.ensures))
