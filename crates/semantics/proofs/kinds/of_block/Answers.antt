use Rattle.word.specs.declared.Instruction.{Instruction}
use Rattle.semantics.specs.Sums.{sums_of}
use Rattle.semantics.proofs.WordSums.{block-short, adds-with}
use Rattle.semantics.proofs.kinds.of_block.Goals as goal

pub with_refills-requires : goal.with_refills-requires
with_refills-requires c = rw c.block_sums.ensures (block-short c.args.i)

pub returns : goal.returns
unfolding sums_of
returns c m = adds-with (Instruction.Block c.args.i) c.with_refills.ensures c.block_sums.ensures c.block_stores.ensures
