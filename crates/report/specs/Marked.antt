-- The report that paper 01 gives, byte for byte ("Marked values, proved together"); beside it the lines of a core with a value of its own in each place,
-- and the budget.
use Rattle.std.specs.Prelude.{ℕ, ◌≡◌, List}
use Prim.Native.String.{String, ◌++◌}
use mathlib.Core.List as list
use Rattle.text.specs.Quoted.{bytes}
use Rattle.pipeline.specs.Marked.{image}
use Rattle.report.specs.Held.{registers, held}
use Rattle.report.specs.Report.{core_lines, begun, finished, report_text}

abbrev pub holds : String → String → String
holds name digits = name ++ ("=" ++ (digits ++ "\n"))

abbrev pub zero : String → String
zero name = holds name "00000000"

abbrev pub zeros : String
zeros =
    zero "r0" ++ (zero "r1" ++ (zero "r2" ++ (zero "r3" ++ (zero "r4"
    ++ (zero "r5" ++ (zero "r6" ++ (zero "r7" ++ (zero "r8" ++ (zero "r9"
    ++ (zero "r10" ++ (zero "r11" ++ (zero "r12" ++ (zero "r13" ++ zero "r14")))))))))))))

abbrev pub sample_text : String
sample_text =
    "answer=22\n"
    ++ ("pc=00000014\n"
    ++ ("cycles=21\n"
    ++ ("ticks=26\n"
    ++ ("retired=11\n"
    ++ ("flags=6\n"
    ++ zeros)))))

abbrev pub held_text : String
held_text =
    "pc=03FFFFFC\n"
    ++ ("cycles=1099511627776\n"
    ++ ("ticks=1099635085565\n"
    ++ ("retired=987654321\n"
    ++ ("flags=A\n"
    ++ (holds "r0" "01234567" ++ (holds "r1" "89ABCDEF" ++ (holds "r2" "00000002" ++ (holds "r3" "00000003" ++ (holds "r4" "00000004"
    ++ (holds "r5" "00000005" ++ (holds "r6" "00000006" ++ (holds "r7" "00000007" ++ (holds "r8" "00000008" ++ (holds "r9" "00000009"
    ++ (holds "r10" "0000000A" ++ (holds "r11" "0000000B" ++ (holds "r12" "0000000C" ++ (holds "r13" "0000000D" ++ holds "r14" "FFFFFFFF"))))))))))))))))))

pub record Marked : Type 0 where
  -- Words E3A00005 E2500001 1AFFFFFD EF000000 give this.
  pub sample : report_text image ≡ bytes sample_text
  -- A refused start prints its answer line only: an image of 3 bytes.
  pub refused : (a b c : ℕ) → report_text (list.◌∷◌ a (list.◌∷◌ b (list.◌∷◌ c list.[]))) ≡ bytes "answer=1\n"
  -- Each value stands in its own line: pc, flags and registers hexadecimal, cycles, ticks and retired decimal.
  pub told : core_lines registers held ≡ bytes held_text
  -- Budget 64: an image that is neither refused nor stopped is told after 64 cycles.
  pub spent : (image : List ℕ) → (begun image).answer ≡ 0 → (finished image).answer ≡ 0 → (finished image).machine.control.counts.cycles ≡ 64
