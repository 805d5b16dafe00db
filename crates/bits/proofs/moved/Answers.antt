use Rattle.bits.proofs.Fields.{shifted-or_zero}
use Rattle.bits.proofs.moved.Goals as goal

pub returns : goal.returns
returns c = rw c.unwrap_or.ensures (shifted-or_zero _ _ _ c.ranges.word.fits c.checked_shr.ensures)
