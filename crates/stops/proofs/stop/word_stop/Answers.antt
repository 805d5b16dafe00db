use Rattle.std.proofs.Common.{sym, ◌∙◌}
use Rattle.stops.proofs.Joins.{read-stop}
use Rattle.stops.proofs.stop.word_stop.Goals as goal

pub returns-in-Processing : goal.returns-in-Processing
returns-in-Processing c bytes = read-stop _ (sym c.in-Processing.is ∙ c.read.ensures) (c.processing_stop.ensures _)

pub returns-in-Single : goal.returns-in-Single
returns-in-Single c bytes = read-stop _ (sym c.in-Single.is ∙ c.read.ensures) (c.single_stop.ensures bytes)

pub returns-in-Block : goal.returns-in-Block
returns-in-Block c bytes = read-stop _ (sym c.in-Block.is ∙ c.read.ensures) (c.block_stop.ensures bytes)

pub returns-in-Multiply : goal.returns-in-Multiply
returns-in-Multiply c bytes = read-stop _ (sym c.in-Multiply.is ∙ c.read.ensures) (c.multiply_stop.ensures _)
