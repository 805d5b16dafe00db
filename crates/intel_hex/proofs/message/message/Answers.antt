-- The number, then the meaning. Assumes nothing.
use Rattle.std.proofs.Common.{◌∙◌}
use Rattle.intel_hex.proofs.Pieces.{told}
use Rattle.intel_hex.proofs.message.message.Goals as goal

pub returns : goal.returns
returns c =
    told c.args.refusal c.new-text.ensures (c.from-2.ensures ∙ c.from.ensures) c.literal.ensures c.decimal.ensures c.literal-2.ensures c.meaning.ensures
