-- Piece by piece. Assumes nothing.
use Rattle.std.proofs.Common.{◌∙◌, ap}
use Rattle.text.specs.Text.{decimal}
use Rattle.text.specs.Output.{put}
use Rattle.rate.specs.Texts.{option_line}
use Rattle.rate.proofs.Pieces.{three, four, whole}
use Rattle.rate.proofs.Room.{option-length}
use Rattle.rate.proofs.texts.option_line.Goals as goal

pub returns : goal.returns
unfolding option_line
returns c =
    whole _ c.new-text.ensures
    (four _ _ _ _ _ c.literal.ensures (c.decimal.ensures ∙ ap (λ n. put c.literal.new.self (decimal n)) c.from.ensures) c.literal-2.ensures
    (four _ _ _ _ _ c.decimal-2.ensures c.literal-3.ensures c.yes_no.ensures (three _ _ _ _ c.literal-4.ensures c.overflow_told.ensures c.literal-5.ensures)))
    (option-length _ _)
