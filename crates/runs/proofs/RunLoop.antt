-- What is left to run after u cycles.
-- Assumes nothing.
use Prim.Native.Nat.{ℕ, suc, ◌+◌, ◌*◌, ◌≤◌, ◌<◌}
use mathlib.Core.Path.{◌≡◌, refl, ap, ◌∙◌}
use native.Mathlib.Omega.{arith}
use Rattle.steps.specs.declared.Ended.TheVariants.{Start, Skipped, Executed}
use Rattle.steps.specs.declared.After.{After}
use Rattle.steps.specs.declared.After.TheVariants.{More, Done, Jump}
use Rattle.cycle.specs.Machine.{Machine, most_cycles}
use Rattle.cycle.specs.Cycle.{own_of, retired_by, cycle}
use Rattle.cycle.specs.StopFound.{stop_found}
use Rattle.cycle.proofs.SumsRise.{sums-rise}
use Rattle.semantics.specs.Sums.{total}
use Rattle.plain.proofs.Running as running
use Rattle.runs.specs.Run.{engine}

-- u cycles on from m₀ it stands at m; the counts have room for the rest
pub record Left (budget : ℕ) (m₀ : Machine) (u : ℕ) (m : Machine) : Type 0 where
  pub left : running.Left engine budget m₀ u m
  pub room : m.control.counts.cycles + left.rest ≤ most_cycles
  pub behind : m.control.counts.retired ≤ m.control.counts.cycles
  pub timed : total m.control.counts.sums + 36 * left.rest ≤ 37 * most_cycles

-- a cycle is counted, and retires at most one instruction
pub one-cycle : (m : Machine) → (cycle m).control.counts.cycles ≡ suc m.control.counts.cycles
unfolding cycle
one-cycle m = refl

retires-one : (e : After) (k : ℕ) → retired_by e k ≤ suc k
retires-one (More ph) k = omega arith
retires-one (Done Start) k = omega arith
retires-one (Done Skipped) k = omega arith
retires-one (Done (Executed m)) k = omega arith
retires-one (Jump word) k = omega arith

pub one-retired : (m : Machine) → (cycle m).control.counts.retired ≤ suc m.control.counts.retired
unfolding cycle
one-retired m = retires-one (own_of m.control.phase m).step.after m.control.counts.retired

pub left-start : (b : ℕ) (m : Machine) → m.control.counts.cycles + b ≤ most_cycles → m.control.counts.retired ≤ m.control.counts.cycles
    → total m.control.counts.sums ≤ m.control.counts.cycles → Left b m 0 m
left-start b m h k t = let l = running.left-start engine b m in record { left = l; room = omega (arith, l.sum); behind = k; timed = omega (arith, l.sum) }

pub left_step : {b u : ℕ} {m₀ m : Machine} → Left b m₀ u m → u < b → {k : Machine} → k ≡ cycle m → stop_found m ≡ 0 → Left b m₀ (u + 1) k
left_step {m = m} l h {k} w e =
    let next = running.left_step engine l.left h w e in
    let cycles : k.control.counts.cycles ≡ suc m.control.counts.cycles = ap (λ (x : Machine). x.control.counts.cycles) w ∙ one-cycle m in
    let sums : total k.control.counts.sums ≡ total (cycle m).control.counts.sums = ap (λ (x : Machine). total x.control.counts.sums) w in
    let retired : k.control.counts.retired ≡ (cycle m).control.counts.retired = ap (λ (x : Machine). x.control.counts.retired) w in
    record {
      left = next;
      room = omega (arith, l.room, l.left.sum, next.sum);
      behind = omega (arith, one-retired m, l.behind);
      timed = omega (arith, sums-rise m, l.timed, l.left.sum, next.sum);
    }
