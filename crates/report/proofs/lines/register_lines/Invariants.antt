-- The registers' lines: after k turns those of the first k registers are put. Assumes nothing.
use mathlib.Core.Path.{◌≡◌}
use Rattle.text.specs.Output.{put}
use Rattle.report.specs.Lines.{register_lines}
use Rattle.report.proofs.lines.register_lines.Given as goal

abbrev pub invariant-loop-k : goal.invariant-loop-k
invariant-loop-k l = l.text ≡ put l.initial.text (register_lines l.k l.registers)
