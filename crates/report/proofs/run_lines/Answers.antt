use Rattle.text.proofs.Put.{put-append}
use Rattle.report.proofs.run_lines.Goals as goal

pub returns : goal.returns
returns c = rw (put-append, ← c.answer_line.ensures) c.core_lines.ensures
