-- The report program (paper 01): an image is started at 0 with zero registers and flags, and run with a budget of 64.
use Rattle.std.specs.Prelude.{ℕ, List, [], ◌∷◌, ◌++◌, Bool, eqb, length, replicate}
use Rattle.bits.specs.Choice.{pick}
use Rattle.text.specs.Text.{hex_digits, decimal}
use Rattle.semantics.specs.Sums.{ticks}
use Rattle.cycle.specs.declared.Control.{Control}
use Rattle.cycle.specs.Machine.{Machine, machine}
use Rattle.pipeline.specs.declared.Core.{Core}
use Rattle.pipeline.specs.Calls.{start, run}
use Rattle.plain.specs.Running.{Ran, Started}
use Rattle.report.specs.Lines.{line, register_lines}

-- answer=
unfoldable pub answer_line : ℕ → List ℕ
answer_line answer = line (97 ∷ 110 ∷ 115 ∷ 119 ∷ 101 ∷ 114 ∷ 61 ∷ []) (decimal answer)

-- pc= cycles= ticks= retired= flags= and the registers
unfoldable pub core_lines : List ℕ → Control → List ℕ
core_lines registers control =
    line (112 ∷ 99 ∷ 61 ∷ []) (hex_digits 8 control.pipe.pc)
    ++ (line (99 ∷ 121 ∷ 99 ∷ 108 ∷ 101 ∷ 115 ∷ 61 ∷ []) (decimal control.counts.cycles)
    ++ (line (116 ∷ 105 ∷ 99 ∷ 107 ∷ 115 ∷ 61 ∷ []) (decimal (ticks control.counts.sums))
    ++ (line (114 ∷ 101 ∷ 116 ∷ 105 ∷ 114 ∷ 101 ∷ 100 ∷ 61 ∷ []) (decimal control.counts.retired)
    ++ (line (102 ∷ 108 ∷ 97 ∷ 103 ∷ 115 ∷ 61 ∷ []) (hex_digits 1 control.flags)
    ++ register_lines 15 registers))))

-- how many cycles the report program's run may take
abbrev pub budget : ℕ
budget = 64

-- the start and the run of an image
unfoldable pub begun : List ℕ → Started Core
begun image = start (replicate 15 0) 0 0 image

unfoldable pub finished : List ℕ → Ran Machine
finished image = run (length image) budget (machine (begun image).machine.registers (begun image).machine.control image)

abbrev pub accepted : List ℕ → Bool
accepted image = eqb (begun image).answer 0

-- a refused start prints its answer line only
unfoldable pub report_text : List ℕ → List ℕ
report_text image =
    pick (accepted image)
    (answer_line (finished image).answer ++ core_lines (finished image).machine.registers (finished image).machine.control)
    (answer_line (begun image).answer)

-- the image afterwards: as the run leaves it
unfoldable pub image_after : List ℕ → List ℕ
image_after image = pick (accepted image) (finished image).machine.memory image
