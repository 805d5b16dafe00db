use Rattle.semantics.proofs.WordDurations.{single-lasts}
use Rattle.semantics.proofs.duration.single_duration.Goals as goal

pub returns : goal.returns
returns c g = single-lasts g _ c.with_refills.ensures c.single_steps.ensures c.single_stores.ensures
