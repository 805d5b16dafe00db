-- Piece by piece. Assumes nothing.
use Rattle.rate.specs.Texts.{rate_line}
use Rattle.rate.proofs.Pieces.{three}
use Rattle.rate.proofs.texts.rate_line.Goals as goal

pub returns : goal.returns
unfolding rate_line
returns c = three _ _ _ _ c.literal.ensures c.decimal.ensures c.counted.ensures
