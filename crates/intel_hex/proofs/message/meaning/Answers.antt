-- Each meaning, piece by piece. Assumes nothing.
use Rattle.std.proofs.Common.{ap, sym, ◌∙◌}
use Rattle.text.specs.Output.{put}
use Rattle.intel_hex.specs.Message.{meaning}
use Rattle.intel_hex.proofs.Pieces.{two, three}
use Rattle.intel_hex.proofs.message.meaning.Goals as goal

pub returns-in-Unsound : goal.returns-in-Unsound
returns-in-Unsound c =
    three _ _ _ _ c.literal-in-Unsound.ensures c.decimal.ensures c.literal-in-Unsound-2.ensures
    ∙ ap (λ r. put c.args.text.now (meaning r)) (sym c.in-Unsound.is)

pub returns-in-Outside : goal.returns-in-Outside
returns-in-Outside c =
    three _ _ _ _ c.literal-in-Outside.ensures c.decimal-in-Outside.ensures c.literal-in-Outside-2.ensures
    ∙ ap (λ r. put c.args.text.now (meaning r)) (sym c.in-Outside.is)

pub returns-in-NoEnd : goal.returns-in-NoEnd
returns-in-NoEnd c =
    two _ _ _ c.literal-in-NoEnd.ensures c.decimal-in-NoEnd.ensures ∙ ap (λ r. put c.args.text.now (meaning r)) (sym c.in-NoEnd.is)
