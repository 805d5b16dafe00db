-- The text of a refused start and of an accepted one, from what the start and the run hand back. Assumes nothing.
use mathlib.Core.Path.{◌≡◌, refl}
use mathlib.Core.List.{List, ◌++◌}
use Prim.Native.Nat.{ℕ}
use borrow.Author.Tests.{eq-eqb, ne_eqb}
use lib.ListN.{length}
use Rattle.cycle.specs.Machine.{Machine, machine}
use Rattle.pipeline.specs.declared.Core.{Core}
use Rattle.pipeline.specs.Calls.{run}
use Rattle.plain.specs.Running.{Ran, Started}
use Rattle.report.specs.Report.{answer_line, core_lines, report_text, image_after, budget, begun, finished}

module _ (image : List ℕ) (b : Started Core) (is : b ≡ begun image) where
  pub refused : (b.answer ≡ 0 → ⊥) → (report_text image ≡ answer_line b.answer) × (image_after image ≡ image)
  unfolding report_text image_after
  refused h = rw (← is, ne_eqb b.answer 0 h) (refl, refl)

  pub accepted : b.answer ≡ 0 → (r : Ran Machine) → r ≡ run (length image) budget (machine b.machine.registers b.machine.control image)
      → (report_text image ≡ answer_line r.answer ++ core_lines r.machine.registers r.machine.control)
      × (image_after image ≡ r.machine.memory)
  unfolding report_text image_after finished
  accepted h r e = rw (← is, eq-eqb b.answer 0 h, ← e) (refl, refl)
