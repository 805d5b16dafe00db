-- Piece by piece. Assumes nothing.
use Rattle.rate.specs.Texts.{last_lines}
use Rattle.rate.proofs.Pieces.{two, three, whole}
use Rattle.rate.proofs.Room.{last-length}
use Rattle.rate.proofs.texts.last_lines.Goals as goal

pub returns : goal.returns
unfolding last_lines
returns c =
    whole _ c.new-text.ensures
    (two _ _ _ (three _ _ _ _ c.literal.ensures c.choice_told.ensures c.literal-2.ensures) (three _ _ _ _ c.literal-3.ensures c.decimal.ensures c.literal-4.ensures))
    (last-length c.args.f.now)
