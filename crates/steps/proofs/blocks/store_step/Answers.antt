use mathlib.Core.Path.{sym, ap, ◌∙◌}
use native.Mathlib.Omega.{arith}
use lib.ListN.{length, length-drop}
use Rattle.transfer.specs.Block.{named}
use Rattle.transfer.proofs.NamedRegisters.{named-length}
use Rattle.steps.proofs.OwnSteps.{store_one}
use Rattle.steps.proofs.blocks.store_step.Goals as goal

pub store_more-requires : goal.store_more-requires
store_more-requires c = (omega (arith, c.count.ensures, ap length c.dropped-left.ensures.result_value, length-drop c.args.k (named c.args.list), named-length c.args.list), omega (arith, c.count.ensures))

pub returns-in-1 : goal.returns-in-1
returns-in-1 c = c.store_last.ensures _ ∙ store_one _ _ _ _ _ _ _ (sym (c.count.ensures ∙ ap length c.dropped-left.ensures.result_value) ∙ c.in-1.is)
