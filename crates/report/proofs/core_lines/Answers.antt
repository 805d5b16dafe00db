-- The lines of a core, one after the other. Assumes nothing.
use Rattle.text.proofs.Put.{put-append}
use Rattle.report.specs.Report.{core_lines}
use Rattle.report.proofs.core_lines.Goals as goal

pub returns : goal.returns
unfolding core_lines
returns c =
    rw (put-append, ← c.hex_line.ensures, put-append, ← c.decimal_line.ensures, put-append, ← c.ticks.ensures, ← c.decimal_line-2.ensures, put-append, ← c.decimal_line-3.ensures, put-append, ← c.hex_line-2.ensures)
    c.register_lines.ensures
