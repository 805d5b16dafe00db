-- The paper's report: the values from where they are proved, the text of them by computing. Assumes nothing.
use Prim.Native.Nat.{ℕ}
use mathlib.Core.Path.{◌≡◌, refl, ◌∙◌}
use mathlib.Core.List.{List, [], ◌∷◌, ◌++◌}
use native.Mathlib.Omega.{arith}
use Rattle.text.specs.Text.{hex_digits, decimal_digits}
use Rattle.plain.specs.Machine as plain
use Rattle.plain.specs.Numbers.{start_answer}
use Rattle.pipeline.specs.Calls.{start}
use Rattle.pipeline.specs.Marked.{reported, Report}
use Rattle.report.proofs.OneRun.{one-run}
use Rattle.pipeline.specs.Term3.{fresh, running, Reply, Answers, other_length, too_many, too_far, repeats, stops, spends, AllAnswer, none, more}
use Rattle.pipeline.proofs.Marked as values
use Rattle.report.specs.Lines.{register_line, register_lines}
use Rattle.report.specs.Held.{registers, held}
use Rattle.report.specs.Report.{answer_line, core_lines, begun, finished, report_text}
use Rattle.text.specs.Quoted.{bytes}
use Rattle.report.specs.Marked.{sample_text, held_text, Marked}

-- the lines of the run, whose numbers are the marked values
lines : Report → answer_line reported.answer ++ core_lines reported.machine.registers reported.machine.control ≡ bytes sample_text
unfolding answer_line core_lines register_line register_lines hex_digits decimal_digits
lines r = rw (r.answer, r.pc, r.cycles, r.ticks, r.retired, r.flags, r.registers)

told : core_lines registers held ≡ bytes held_text
unfolding core_lines register_line register_lines hex_digits decimal_digits
told = refl

-- ---- the budget, by term 3 on a list of one call

-- a first call that is answered 0 comes to a total of its budget
first : {p : plain.Machine} {n t q b : ℕ} {mem : List ℕ} {r : Reply} → Answers p n 0 0 (running mem b) r t q → r.answer ≡ 0 → t ≡ b
first (other_length l) e = absurd (omega arith)
first (too_many l b) e = absurd (omega arith)
first (too_far l b f) e = absurd (omega arith)
first (repeats a z) e = absurd (z refl)
first (stops a z s l b) e = absurd (s.real e)
first (spends a z s b) e = omega (arith, s)

one : {p : plain.Machine} {n t q b : ℕ} {mem : List ℕ} {r : Reply} → AllAnswer p n 0 0 (running mem b ∷ []) (r ∷ []) t q → r.answer ≡ 0 → t ≡ b
one (more a none) e = first a e

spent : (image : List ℕ) → (begun image).answer ≡ 0 → (finished image).answer ≡ 0 → (finished image).machine.control.counts.cycles ≡ 64
unfolding begun finished fresh
spent image accepts e =
    let f = one-run image accepts in
    f.leaves.cycles ∙ one f.answers e

pub marked : Marked
unfolding report_text begun finished start start_answer answer_line decimal_digits
marked = record { sample = lines (values.marked).report; refused = λ a b c. refl; told = told; spent = spent }
