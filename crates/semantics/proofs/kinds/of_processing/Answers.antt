use Rattle.word.specs.declared.Instruction.{Instruction}
use Rattle.semantics.specs.Sums.{sums_of}
use Rattle.semantics.proofs.WordSums.{adds-with}
use Rattle.semantics.proofs.kinds.of_processing.Goals as goal

pub returns : goal.returns
unfolding sums_of
returns c m = adds-with (Instruction.Processing c.args.i) c.with_refills.ensures c.processing_sums.ensures c.processing_stores.ensures
