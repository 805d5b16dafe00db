use Rattle.std.proofs.Common.{sym, ◌∙◌, arith}
use Rattle.word.specs.declared.Instruction.{Instruction}
use Rattle.semantics.proofs.WordSums.{fits-by, read-adds, branch-adds, multiply-adds, other-adds}
use Rattle.semantics.proofs.kinds.sums_of.Goals as goal

pub returns-in-Branch-clause-sums : goal.returns-in-Branch-clause-sums
returns-in-Branch-clause-sums c = read-adds _ (sym c.in-Branch.is ∙ c.read.ensures) (branch-adds _ _ c.nsi.ensures)

pub returns-in-Multiply-clause-sums : goal.returns-in-Multiply-clause-sums
returns-in-Multiply-clause-sums c = read-adds _ (sym c.in-Multiply.is ∙ c.read.ensures) (multiply-adds _ _ (rw c.from.ensures at c.nsi-in-Multiply.ensures))

pub returns-in-Other-clause-sums : goal.returns-in-Other-clause-sums
returns-in-Other-clause-sums c = read-adds _ (sym c.in-Other.is ∙ c.read.ensures) (other-adds _ _ c.nsi-in-Other.ensures)

pub returns-in-Processing-clause-short : goal.returns-in-Processing-clause-short
returns-in-Processing-clause-short c = fits-by (Instruction.Processing c.in-Processing.i) 0 (c.of_processing.ensures 0) (omega arith)

pub returns-in-Single-clause-short : goal.returns-in-Single-clause-short
returns-in-Single-clause-short c = fits-by (Instruction.Single c.in-Single.i) 0 (c.of_single.ensures 0) (omega arith)

pub returns-in-Block-clause-short : goal.returns-in-Block-clause-short
returns-in-Block-clause-short c = fits-by (Instruction.Block c.in-Block.i) 0 (c.of_block.ensures 0) (omega arith)
