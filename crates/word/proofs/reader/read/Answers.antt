use Rattle.word.proofs.Dispatch.{reads-processing, reads-single, reads-block, reads-branch, reads-multiply, reads_other}
use Rattle.word.proofs.reader.read.Goals as goal

pub returns-in-Processing : goal.returns-in-Processing
returns-in-Processing c = rw (c.processing.ensures, c.processing_operand.ensures) (reads-processing _ c.in-Processing.ensures)

pub returns-in-Single : goal.returns-in-Single
returns-in-Single c = rw (c.single.ensures, c.single_offset.ensures) (reads-single _ c.in-Single.ensures)

pub returns-in-Block : goal.returns-in-Block
returns-in-Block c = rw c.block.ensures (reads-block _ c.in-Block.ensures)

pub returns-in-Branch : goal.returns-in-Branch
returns-in-Branch c = rw c.branch-word.ensures (reads-branch _ c.in-Branch.ensures)

pub returns-in-Multiply : goal.returns-in-Multiply
returns-in-Multiply c = rw c.multiply.ensures (reads-multiply _ c.in-Multiply.ensures)

pub returns-in-Other : goal.returns-in-Other
returns-in-Other c = reads_other _ c.in-Other.ensures
