-- A run from a boundary: it goes on from the next one after a whole instruction.
-- Assumes nothing.
use Prim.Native.Nat.{ℕ, zero, suc, ◌+◌, ◌≤◌, ◌<◌}
use mathlib.Core.Path.{◌≡◌, sym, ap, ◌∙◌}
use native.Mathlib.Omega.{arith}
use native.Mathlib.Nat.{zero-add}
use Rattle.memory.specs.Memory.{word_at}
use Rattle.semantics.proofs.Stopped.{stopped-unchanged}
use Rattle.plain.specs.Machine as plain
use Rattle.plain.specs.Trace.{stop_met, duration, adds}
use Rattle.datapath.specs.Counter.{counters}
use Rattle.memory.specs.Lengths.{most_bytes}
use Rattle.cycle.specs.Machine.{Machine}
use Rattle.cycle.specs.Cycle.{cycle}
use Rattle.cycle.specs.StopFound.{stop_found}
use Rattle.cycle.proofs.StopFound.{no_stop}
use Rattle.plain.specs.Running.{ran, one_more, more_by, runs}
use Rattle.runs.specs.Run.{run_from}
use Rattle.cycle.specs.declared.Counts.{Counts}
use Rattle.runs.specs.Boundary.{boundary}
use Rattle.runs.specs.Whole.{counts_on}
use Rattle.runs.proofs.Flight.{Flight, climb, climb-add, retiring}
use Rattle.runs.proofs.PlainSteps.{stop_is, flight, duration-flight, instruction, boundary-stop}

pub run_on : (b : ℕ) (m : Machine) → stop_found m ≡ 0 → run_from (suc b) m ≡ one_more (run_from b (cycle m))
unfolding runs
run_on b m e = rw (e, runs)

flown : (n : ℕ) (c : Counts) (u b : ℕ) (m e : Machine) → Flight c u n m e → run_from (n + b) m ≡ more_by n (run_from b e)
flown zero c u b m e f = let z : 0 + b ≡ b = omega arith in rw z (ap (run_from b) f ∙ ap (λ x. ran (run_from b e).answer x (run_from b e).machine) (sym (zero-add (run_from b e).used)))
flown (suc n) c u b m e f =
    let q : stop_found m ≡ 0 = no_stop m f.0.off in
    let s : suc n + b ≡ suc (n + b) = omega arith in
    let w : suc (n + (run_from b e).used) ≡ suc n + (run_from b e).used = omega arith in
    rw s (run_on (n + b) m q ∙ ap one_more (flown n c (suc u) b (cycle m) e f.1) ∙ ap (λ x. ran (run_from b e).answer x (run_from b e).machine) w)

-- the plain machine at a boundary does its instruction, and the run goes on after its duration
pub whole : (p : plain.Machine) (n : Counts) (b : ℕ) → p.plain.a < counters → p.plain.board.size ≤ most_bytes → stop_met p ≡ 0
    → run_from (duration p + b) (boundary p n) ≡ more_by (duration p) (run_from b (boundary (plain.step p) (counts_on (duration p) 1 (adds p) n)))
whole p n b r l e =
    let d = duration-flight p e in
    let t : n.cycles + duration p ≡ climb (flight p) (suc n.cycles) = omega (arith, climb-add (flight p) (suc n.cycles)) in
    let k : n.retired + 1 ≡ suc n.retired = omega arith in
    let q : stop_found (boundary p n) ≡ 0 = boundary-stop p n r ∙ e in
    let s : duration p + b ≡ suc (flight p + b) = omega arith in
    let next = boundary (plain.step p) (retiring (climb (flight p) (suc n.cycles)) (adds p) n) in
    let after = run_from b next in
    let f = flown (flight p) n 3 b (cycle (boundary p n)) next (instruction p n r l e) in
    let z : suc (flight p + after.used) ≡ duration p + after.used = omega arith in
    rw (s, t, k) (run_on (flight p + b) (boundary p n) q ∙ ap one_more f ∙ ap (λ x. ran after.answer x after.machine) z)

-- an instruction that meets no stop takes a cycle or more
pub duration-positive : (p : plain.Machine) → stop_met p ≡ 0 → 0 < duration p
duration-positive p e = omega (arith, duration-flight p e)

-- one that meets a stop leaves the boundary as it was
pub stopped-boundary : (p : plain.Machine) (n : Counts) {q : ℕ} → stop_met p ≡ suc q → boundary (plain.step p) n ≡ boundary p n
unfolding boundary plain.step plain.performed_at
stopped-boundary p n e =
    let word = word_at (plain.state_of p).memory p.plain.a in
    let u = (stopped-unchanged word (plain.state_of p)).unchanged (λ z. absurd (omega (arith, sym e ∙ stop_is p ∙ z))) in
    rw (u.registers, u.flags, u.address, u.memory)
