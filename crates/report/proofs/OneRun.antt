-- Term 3 on the report's list of one call.
-- Assumes nothing.
use Prim.Native.Nat.{ℕ, ◌+◌, ◌^◌, ◌<◌}
use mathlib.Core.Path.{◌≡◌, refl, sym, ap, ◌∙◌}
use mathlib.Core.List.{List, [], ◌∷◌}
use native.Mathlib.Omega.{arith}
use lib.ListN.{length, replicate}
use Rattle.semantics.specs.Sums.{total}
use Rattle.cycle.specs.Machine.{Machine, machine}
use Rattle.refusals.proofs.Refusals.{good}
use Rattle.pipeline.specs.Calls.{run}
use Rattle.pipeline.specs.declared.Core.{Core}
use Rattle.plain.specs.Running.{Ran, Started}
use Rattle.pipeline.specs.Term3.{fresh, plain_fresh, running, call, reply_of, Calls, no_calls, accepted, Follows}
use Rattle.pipeline.proofs.Lists.{term3}
use Rattle.report.specs.Report.{budget, begun}

-- the core that is run, and the run
abbrev pub run_of : List ℕ → Ran Machine
run_of image = call (running image budget) (fresh (replicate 15 0) 0 0 image)

pub one-run : (image : List ℕ) → (begun image).answer ≡ 0
    → Follows (plain_fresh (replicate 15 0) 0 0 image) (fresh (replicate 15 0) 0 0 image) (length image) (running image budget ∷ []) (reply_of (run_of image) ∷ []) (run_of image).machine
    (0 + (run_of image).used)
unfolding begun
one-run image accepts =
    let same : image ≡ (fresh (replicate 15 0) 0 0 image).memory = unfold fresh in refl in
    let calls : Calls (plain_fresh (replicate 15 0) 0 0 image) (length image) (fresh (replicate 15 0) 0 0 image) 0 (running image budget ∷ []) (reply_of (run_of image) ∷ []) (run_of image).machine (0 + (run_of image).used) =
    accepted {t = 0} {c = running image budget} (record { lent = refl; small = omega arith; near = omega arith }) same no_calls in
    term3.lists (replicate 15 0) 0 0 image accepts (running image budget ∷ []) (reply_of (run_of image) ∷ []) (run_of image).machine (0 + (run_of image).used) calls

-- so the sums that are told are far from 2^64, being no more than the cycles
pub told-sums : (image : List ℕ) (b : Started Core) → b ≡ begun image → b.answer ≡ 0
    → (r : Ran Machine) → r ≡ run (length image) budget (machine b.machine.registers b.machine.control image) → total r.machine.control.counts.sums < 2 ^ 62
unfolding begun fresh
told-sums image b is h r e =
    let accepts : (begun image).answer ≡ 0 = unfold begun in ap (λ (x : Started Core). x.answer) (sym is) ∙ h in
    let k = good (run_of image).machine (one-run image accepts).leaves.good in
    let same : r ≡ run_of image = e ∙ ap (λ (x : Started Core). run (length image) budget (machine x.machine.registers x.machine.control image)) is in
    rw same (omega (arith, k.few, k.timed))
