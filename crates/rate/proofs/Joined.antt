-- A run goes on from where a part of it came to, and what any run has counted. Assumes nothing.
use Rattle.std.proofs.Common.{◌≡◌, ℕ, zero, suc, ◌+◌, ◌≤◌, refl, sym, ap, ◌∙◌, arith, zero-add}
use Rattle.plain.specs.Running.{ran, one_more, more_by, Engine, runs}
use Rattle.plain.proofs.Running.{found}
use Rattle.cycle.specs.Machine.{Machine}
use Rattle.cycle.specs.Cycle.{cycle}
use Rattle.cycle.specs.StopFound.{stop_found}
use Rattle.cycle.proofs.SumsRise.{sums-rise}
use Rattle.cycle.specs.declared.Control.{Control}
use Rattle.rate.specs.Folds.{Counted}
use Rattle.runs.specs.Run.{engine, run_from}
use Rattle.runs.proofs.RunLoop.{one-cycle, one-retired}

module _ {M : Type 0} (e : Engine M) where
  -- a part that spent its cycles
  pub spent-used : (k : ℕ) (m : M) → (runs e k m).answer ≡ 0 → (runs e k m).used ≡ k
  unfolding runs
  spent-used zero m h = refl
  spent-used (suc k) m h = go (e.finds m) (spent-used k (e.next m)) h
    where
      go : (q : ℕ) → ((runs e k (e.next m)).answer ≡ 0 → (runs e k (e.next m)).used ≡ k) → (found e q k m).answer ≡ 0 → (found e q k m).used ≡ suc k
      go zero i h = ap suc (i h)
      go (suc q) i h = absurd (omega (arith, h))

  pub goes-on : (k n : ℕ) (m : M) → (runs e k m).answer ≡ 0 → runs e (k + n) m ≡ more_by k (runs e n (runs e k m).machine)
  unfolding runs
  goes-on zero n m h =
      let z : 0 + n ≡ n = zero-add n in
      let u : 0 + (runs e n m).used ≡ (runs e n m).used = zero-add _ in
      rw z (ap (λ x. ran (runs e n m).answer x (runs e n m).machine) (sym u))
  goes-on (suc k) n m h =
      let s : suc k + n ≡ suc (k + n) = omega arith in
      rw s (go (e.finds m) (goes-on k n (e.next m)) h)
    where
      go : (q : ℕ) → ((runs e k (e.next m)).answer ≡ 0 → runs e (k + n) (e.next m) ≡ more_by k (runs e n (runs e k (e.next m)).machine)) → (found e q k m).answer ≡ 0
          → found e q (k + n) m ≡ more_by (suc k) (runs e n (found e q k m).machine)
      go zero i h =
          let last = runs e n (runs e k (e.next m)).machine in
          let u : suc (k + last.used) ≡ suc k + last.used = omega arith in
          ap one_more (i h) ∙ ap (λ x. ran last.answer x last.machine) u
      go (suc q) i h = absurd (omega (arith, h))

  -- a part that found a stop is the run
  pub stops-there : (k n : ℕ) (m : M) → ((runs e k m).answer ≡ 0 → ⊥) → runs e (k + n) m ≡ runs e k m
  unfolding runs
  stops-there zero n m h = absurd (h refl)
  stops-there (suc k) n m h =
      let s : suc k + n ≡ suc (k + n) = omega arith in
      rw s (go (e.finds m) (stops-there k n (e.next m)) h)
    where
      go : (q : ℕ) → (((runs e k (e.next m)).answer ≡ 0 → ⊥) → runs e (k + n) (e.next m) ≡ runs e k (e.next m)) → ((found e q k m).answer ≡ 0 → ⊥)
          → found e q (k + n) m ≡ found e q k m
      go zero i h = ap one_more (i h)
      go (suc q) i h = refl

-- ---- what is counted

counted-cycle : {t : ℕ} (m : Machine) → Counted t m.control → Counted (suc t) (cycle m).control
counted-cycle m c = record {
  cycles = one-cycle m ∙ ap suc c.cycles;
  retired = omega (arith, one-retired m, c.retired);
  sums = omega (arith, sums-rise m, c.sums);
}

at : {t u : ℕ} {c : Control} → t ≡ u → Counted t c → Counted u c
at e c = record { cycles = c.cycles ∙ e; retired = omega (arith, c.retired, e); sums = omega (arith, c.sums, e) }

pub counted-run : (n t : ℕ) (m : Machine) → Counted t m.control → Counted (t + (run_from n m).used) (run_from n m).machine.control
unfolding runs
counted-run zero t m c = at (omega arith) c
counted-run (suc n) t m c = go (stop_found m) (counted-run n (suc t) (cycle m) (counted-cycle m c))
  where
    go : (q : ℕ) → Counted (suc t + (run_from n (cycle m)).used) (run_from n (cycle m)).machine.control → Counted (t + (found engine q n m).used) (found engine q n m).machine.control
    go zero i = at (omega arith) i
    go (suc q) i = at (omega arith) (record { cycles = c.cycles; retired = c.retired; sums = c.sums })
