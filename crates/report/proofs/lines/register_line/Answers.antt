-- The name of a register and its number, one after the other. Assumes nothing.
use Rattle.text.proofs.Put.{put-append}
use Rattle.report.specs.Lines.{register_line}
use Rattle.report.proofs.lines.register_line.Goals as goal

pub returns : goal.returns
unfolding register_line
returns c = rw (put-append, ← c.literal.ensures, put-append, ← c.decimal.ensures) c.hex_line.ensures
