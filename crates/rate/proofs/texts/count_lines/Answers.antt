-- Line by line. Assumes nothing.
use Rattle.rate.specs.Texts.{count_lines}
use Rattle.rate.proofs.Pieces.{four}
use Rattle.rate.proofs.texts.count_lines.Goals as goal

pub returns : goal.returns
unfolding count_lines
returns c = four _ _ _ _ _ c.counted.ensures c.counted-2.ensures c.counted-3.ensures c.counted-4.ensures
