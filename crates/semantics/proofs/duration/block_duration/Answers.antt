use Rattle.semantics.proofs.Durations.{block-short}
use Rattle.semantics.proofs.WordDurations.{short-as, block-lasts}
use Rattle.semantics.proofs.duration.block_duration.Goals as goal

pub with_refills-requires : goal.with_refills-requires
with_refills-requires c = short-as c.block_steps.ensures (block-short c.args.i)

pub returns : goal.returns
returns c g = block-lasts g _ c.with_refills.ensures c.block_steps.ensures c.block_stores.ensures
