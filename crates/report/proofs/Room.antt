-- The report is at most 317 bytes, so that a text holds all of it. Assumes nothing.
use mathlib.Core.Path.{◌≡◌, sym, ap, ◌∙◌}
use mathlib.Core.Bool.{Bool, true, false}
use mathlib.Core.List.{List, [], ◌++◌}
use Prim.Native.Nat.{ℕ, ◌≤◌}
use native.Mathlib.Omega.{arith}
use lib.ListN.{length, length-append}
use Rattle.bits.specs.Choice.{pick}
use Rattle.text.specs.Text.{decimal_digits}
use Rattle.text.specs.Output.{put}
use Rattle.text.proofs.Put.{put-fits}
use Rattle.text.proofs.Digits.{hex-length, decimal-length}
use Rattle.semantics.specs.Sums.{ticks}
use Rattle.cycle.specs.declared.Control.{Control}
use Rattle.report.specs.Lines.{register_line, register_lines}
use Rattle.report.specs.Report.{answer_line, core_lines, report_text, begun, finished, accepted}

register-lines-length : (registers : List ℕ) → length (register_lines 15 registers) ≡ 185
unfolding register_lines register_line decimal_digits
register-lines-length registers = simp (length-append, hex-length)

answer-length : (answer : ℕ) → length (answer_line answer) ≤ 28
unfolding answer_line
answer-length answer = simp length-append (omega (arith, decimal-length 20 answer))

core_length : (registers : List ℕ) (control : Control) → length (core_lines registers control) ≤ 289
unfolding core_lines
core_length registers control =
    simp (length-append, hex-length, register-lines-length)
    (omega (arith, decimal-length 20 control.counts.cycles, decimal-length 20 (ticks control.counts.sums), decimal-length 20 control.counts.retired))

pub report-length : (image : List ℕ) → length (report_text image) ≤ 317
unfolding report_text
report-length image = go (accepted image)
  where
    go : (b : Bool) → length (pick b (answer_line (finished image).answer ++ core_lines (finished image).machine.registers (finished image).machine.control) (answer_line (begun image).answer)) ≤ 317
    go true = simp length-append (omega (arith, answer-length (finished image).answer, core_length (finished image).machine.registers (finished image).machine.control))
    go false = omega (arith, answer-length (begun image).answer)

-- what the calls leave together in a new text, which has room for all of it
pub whole : {text lines : List ℕ} (image : List ℕ) → report_text image ≡ lines → text ≡ put [] lines → text ≡ report_text image
whole image is e = e ∙ ap (put []) (sym is) ∙ put-fits [] (report_text image) (omega (arith, report-length image))
