use Rattle.word.specs.declared.Instruction.{Instruction}
use Rattle.semantics.specs.Sums.{sums_of}
use Rattle.semantics.proofs.WordSums.{adds-with}
use Rattle.semantics.proofs.kinds.of_single.Goals as goal

pub returns : goal.returns
unfolding sums_of
returns c m = adds-with (Instruction.Single c.args.i) c.with_refills.ensures c.single_sums.ensures c.single_stores.ensures
