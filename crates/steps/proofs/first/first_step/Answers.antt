use Rattle.steps.proofs.first.first_step.Goals as goal

pub returns-in-Single : goal.returns-in-Single
returns-in-Single c mem = rw (← c.read.ensures, c.in-Single.is, c.first_single.ensures mem)

pub returns-in-Block : goal.returns-in-Block
returns-in-Block c mem = rw (← c.read.ensures, c.in-Block.is, c.first_block.ensures mem)

pub returns-in-Branch : goal.returns-in-Branch
returns-in-Branch c mem = rw (← c.read.ensures, c.in-Branch.is, c.first_branch.ensures mem)
