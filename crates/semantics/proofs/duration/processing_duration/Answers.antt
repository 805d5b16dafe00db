use Rattle.semantics.proofs.WordDurations.{processing-lasts}
use Rattle.semantics.proofs.duration.processing_duration.Goals as goal

pub returns : goal.returns
returns c g = processing-lasts g _ c.with_refills.ensures c.processing_steps.ensures c.processing_stores.ensures
