-- Line by line. Assumes nothing.
use Rattle.rate.specs.Texts.{time_lines}
use Rattle.rate.proofs.Pieces.{four}
use Rattle.rate.proofs.texts.time_lines.Goals as goal

pub returns : goal.returns
unfolding time_lines
returns c = four _ _ _ _ _ c.counted.ensures c.counted-2.ensures c.counted-3.ensures c.counted-4.ensures
