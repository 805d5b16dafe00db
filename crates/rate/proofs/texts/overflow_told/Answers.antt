-- Piece by piece. Assumes nothing.
use Rattle.std.proofs.lemmas.Bool.{ne_eqb}
use Rattle.rate.specs.Texts.{overflow_told}
use Rattle.rate.proofs.Pieces.{four}
use Rattle.rate.proofs.texts.overflow_told.Goals as goal

pub returns : goal.returns
unfolding overflow_told
returns c = rw (ne_eqb _ _ c.if-v-eq0.false) (four _ _ _ _ _ c.literal-2.ensures c.decimal.ensures c.literal-3.ensures c.decimal-2.ensures)
