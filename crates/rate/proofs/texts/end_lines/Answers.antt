-- The number, and where it is a stop its place. Assumes nothing.
use Rattle.std.proofs.Common.{◌∙◌, ap}
use Rattle.std.proofs.lemmas.Bool.{ne_eqb}
use Rattle.text.specs.Output.{put}
use Rattle.rate.specs.Texts.{counted, end_lines}
use Rattle.rate.proofs.Pieces.{three}
use Rattle.rate.proofs.texts.end_lines.Goals as goal

pub returns-then-f-ne0 : goal.returns-then-f-ne0
unfolding end_lines
returns-then-f-ne0 c = rw (ne_eqb _ _ c.if-f-ne0.true) (three _ _ _ _ (c.counted.ensures ∙ ap (λ n. put c.args.text.now (counted "end=" n)) c.from.ensures) c.address.ensures c.word_line.ensures)
