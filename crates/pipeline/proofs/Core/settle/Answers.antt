use Rattle.pipeline.proofs.Settled.{settled-by}
use Rattle.pipeline.proofs.Core.settle.Goals as goal

pub returns : goal.returns
returns c = settled-by _ _ (c.cycles_left-left.ensures _) c.run.ensures
