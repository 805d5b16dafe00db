-- A run in pieces, and its stores. Assumes nothing.
use Prim.Native.Nat.{ℕ, zero, suc, ◌+◌, ◌-◌, ◌*◌, ◌≤◌}
use mathlib.Core.Path.{◌≡◌, refl, sym, ap, ◌∙◌}
use mathlib.Core.Logic.{◌≢◌}
use native.Mathlib.Omega.{arith}
use native.Mathlib.Nat.{zero-add, add-zero}
use Rattle.semantics.specs.Sums.{total}
use Rattle.plain.specs.Running.{Ran, ran, one_more, more_by, runs}
use Rattle.plain.proofs.Running.{runs_by, used-at-most}
use Rattle.runs.proofs.BoundaryRuns.{run_on}
use Rattle.cycle.specs.Machine.{Machine}
use Rattle.cycle.specs.Cycle.{cycle}
use Rattle.cycle.specs.StopFound.{stop_found}
use Rattle.runs.specs.Run.{engine, run_from, reach}
use Rattle.pipeline.proofs.Settled.{reach-first}
use Rattle.link.specs.declared.Window.{Window}
use Rattle.link.specs.declared.Summary.{Summary}
use Rattle.link.specs.Window.{handed}
use Rattle.link.specs.Summary.{summed}
use Rattle.link.proofs.Handed.{parts}
use Rattle.link.proofs.Gaps.{splits}
use Rattle.stores.specs.Coming.{stored}
use Rattle.stores.proofs.Flights.{reach-add, stored-add}
use Rattle.watch.specs.Rated.{rated, rate_from, Split}
use Rattle.watch.proofs.Watching.{counted}

-- ---- a run that spends its budget, and one that stops

pub record Spent (n b : ℕ) (m : Machine) : Type 0 where
  pub used : (run_from n m).used ≡ n
  pub there : (run_from n m).machine ≡ reach m n
  pub goes : run_from (n + b) m ≡ more_by n (run_from b (run_from n m).machine)

pub spent : (n b : ℕ) (m : Machine) → (run_from n m).answer ≡ 0 → Spent n b m
spent zero b m e = record {
  used = unfold runs in refl;
  there = unfold runs reach in refl;
  goes = ap (λ x. run_from x m) (zero-add b) ∙ (unfold runs in ap (λ u. ran (run_from b m).answer u (run_from b m).machine) (sym (zero-add (run_from b m).used)));
}
spent (suc n) b m e = go (stop_found m) refl (λ z. spent n b (cycle m) z)
  where
    go : (q : ℕ) → stop_found m ≡ q → ((run_from n (cycle m)).answer ≡ 0 → Spent n b (cycle m)) → Spent (suc n) b m
    go zero f ih =
        let r = run_on n m f in
        let s = ih (ap (λ (x : Ran Machine). x.answer) (sym r) ∙ e) in
        let i : suc n + b ≡ suc (n + b) = omega arith in
        let last = run_from b (run_from n (cycle m)).machine in
        let u : suc (n + last.used) ≡ suc n + last.used = omega arith in
        record {
          used = ap (λ (x : Ran Machine). x.used) r ∙ ap suc s.used;
          there = ap (λ (x : Ran Machine). x.machine) r ∙ s.there ∙ reach-first m n;
          goes = ap (λ x. run_from x m) i ∙ run_on (n + b) m f ∙ ap one_more s.goes ∙ ap (λ x. ran last.answer x last.machine) u
              ∙ ap (λ (x : Ran Machine). more_by (suc n) (run_from b x.machine)) (sym r);
        }
    go (suc q) f ih = absurd (let z : suc q ≡ 0 = ap (λ (x : Ran Machine). x.answer) (sym (runs_by engine n m f)) ∙ e in omega arith)

pub halted : (n b : ℕ) (m : Machine) → (run_from n m).answer ≢ 0 → run_from (n + b) m ≡ run_from n m
halted zero b m z = absurd (z (unfold runs in refl))
halted (suc n) b m z = go (stop_found m) refl (λ y. halted n b (cycle m) y)
  where
    go : (q : ℕ) → stop_found m ≡ q → ((run_from n (cycle m)).answer ≢ 0 → run_from (n + b) (cycle m) ≡ run_from n (cycle m)) → run_from (suc n + b) m ≡ run_from (suc n) m
    go zero f ih =
        let r = run_on n m f in
        let i : suc n + b ≡ suc (n + b) = omega arith in
        ap (λ x. run_from x m) i ∙ run_on (n + b) m f ∙ ap one_more (ih (λ y. z (ap (λ (x : Ran Machine). x.answer) r ∙ y))) ∙ sym r
    go (suc q) f ih =
        let i : suc n + b ≡ suc (n + b) = omega arith in
        ap (λ x. run_from x m) i ∙ runs_by engine (n + b) m f ∙ sym (runs_by engine n m f)

-- ---- the summary of pieces

both-summed : (w : Window) (s : Summary) (m : Machine) (a b : ℕ)
    → summed (summed s (handed w (stored m a))) (handed w (stored (reach m a) b)) ≡ summed s (handed w (stored m (a + b)))
both-summed w s m a b =
    sym (splits s (handed w (stored m a)) (handed w (stored (reach m a) b)))
    ∙ ap (summed s) (sym (parts w (stored m a) (stored (reach m a) b)) ∙ ap (handed w) (sym (stored-add m a b)))

pub split : Split
split a b w s m e =
    let p = spent a b m e in
    let last = run_from b (run_from a m).machine in
    ap (λ (r : Ran Machine). rated r (summed s (handed w (stored m r.used)))) p.goes
    ∙ ap (λ (x : Summary). rated (more_by a last) x) (sym (both-summed w s m a last.used)
    ∙ ap (λ (x : Machine). summed (summed s (handed w (stored m a))) (handed w (stored x last.used))) (sym p.there)
    ∙ ap (λ u. summed (summed s (handed w (stored m u))) (handed w (stored (run_from a m).machine last.used))) (sym p.used))

-- u cycles on from m₀ the run stands at m, with this summary
pub record Rating (budget : ℕ) (w : Window) (s : Summary) (m₀ : Machine) (u : ℕ) (m : Machine) (sum : Summary) : Type 0 where
  pub within : u ≤ budget
  pub goes : run_from budget m₀ ≡ more_by u (run_from (budget - u) m)
  pub at : m ≡ reach m₀ u
  pub sum_is : sum ≡ summed s (handed w (stored m₀ u))

pub rating-start : (b : ℕ) (w : Window) (s : Summary) (m : Machine) → Rating b w s m 0 m s
rating-start b w s m = record {
  within = omega arith;
  goes = let z : b - 0 ≡ b = omega arith in ap (λ u. ran (run_from b m).answer u (run_from b m).machine) (sym (zero-add (run_from b m).used)) ∙ ap (λ x. more_by 0 (run_from x m)) (sym z);
  at = unfold reach in refl;
  sum_is = unfold stored handed in refl;
}

module _ {b : ℕ} {w : Window} {s : Summary} {m₀ : Machine} {u : ℕ} {m : Machine} {sum : Summary} (l : Rating b w s m₀ u m sum) where
  pub counts-there : (m.control.counts.cycles ≡ m₀.control.counts.cycles + u) × (m.control.counts.retired ≤ m₀.control.counts.retired + u)
      × (total m.control.counts.sums ≤ total m₀.control.counts.sums + 36 * u)
  counts-there = let c = counted m₀ u in rw l.at (c.cycles, c.retired, c.sums)

  -- a piece later, of p cycles
  module _ (p : ℕ) (fits : p ≤ b - u) (r : Ran Machine) (is : r ≡ run_from p m) (more : Summary) (tells : more ≡ summed sum (handed w (stored m r.used))) where
    sum-then : more ≡ summed s (handed w (stored m₀ (u + r.used)))
    sum-then =
        tells ∙ ap (λ (x : Summary). summed x (handed w (stored m r.used))) l.sum_is
        ∙ ap (λ (x : Machine). summed (summed s (handed w (stored m₀ u))) (handed w (stored x r.used))) l.at
        ∙ both-summed w s m₀ u r.used

    pub piece-spent : r.answer ≡ 0 → Rating b w s m₀ (u + r.used) r.machine more × (r.used ≡ p)
    piece-spent z =
        let q = spent p (b - u - p) m (ap (λ (x : Ran Machine). x.answer) (sym is) ∙ z) in
        let used : r.used ≡ p = ap (λ (x : Ran Machine). x.used) is ∙ q.used in
        let i : p + (b - u - p) ≡ b - u = omega arith in
        let k : b - (u + r.used) ≡ b - u - p = omega (arith, used) in
        let last = run_from (b - u - p) r.machine in
        let t : u + (p + last.used) ≡ u + r.used + last.used = omega (arith, used) in (
          record {
            within = omega (arith, used, l.within);
            goes =
                l.goes ∙ ap (λ x. more_by u (run_from x m)) (sym i) ∙ ap (more_by u) q.goes
                ∙ ap (λ (x : Ran Machine). more_by u (more_by p (run_from (b - u - p) x.machine))) (sym is)
                ∙ ap (λ x. ran last.answer x last.machine) t
                ∙ ap (λ x. more_by (u + r.used) (run_from x r.machine)) (sym k);
            at = ap (λ (x : Ran Machine). x.machine) is ∙ q.there ∙ ap (λ (x : Machine). reach x p) l.at ∙ sym (reach-add m₀ u p) ∙ ap (λ x. reach m₀ (u + x)) (sym used);
            sum_is = sum-then;
          },
          used,
        )

    pub piece-halted : r.answer ≢ 0 → rated (ran r.answer (u + r.used) r.machine) more ≡ rate_from b w s m₀
    piece-halted z =
        let i : p + (b - u - p) ≡ b - u = omega arith in
        let h = halted p (b - u - p) m (λ y. z (ap (λ (x : Ran Machine). x.answer) is ∙ y)) in
        let g : run_from b m₀ ≡ more_by u r = l.goes ∙ ap (λ x. more_by u (run_from x m)) (sym i) ∙ ap (more_by u) (h ∙ sym is) in
        ap (λ (x : Summary). rated (more_by u r) x) sum-then ∙ ap (λ (x : Ran Machine). rated x (summed s (handed w (stored m₀ x.used)))) (sym g)

  pub rating-done : b ≤ u → rated (ran 0 u m) sum ≡ rate_from b w s m₀
  unfolding runs
  rating-done h =
      let z : b - u ≡ 0 = omega arith in
      let g : run_from b m₀ ≡ ran 0 u m = l.goes ∙ ap (λ x. more_by u (run_from x m)) z ∙ ap (λ x. ran 0 x m) (add-zero u) in
      ap (λ (x : Summary). rated (ran 0 u m) x) l.sum_is ∙ ap (λ (x : Ran Machine). rated x (summed s (handed w (stored m₀ x.used)))) (sym g)

-- a run uses no more than its budget
pub used-within : (b : ℕ) (m : Machine) {r : Ran Machine} → r ≡ run_from b m → r.used ≤ b
used-within b m {r} e = rw (ap (λ (x : Ran Machine). x.used) e) (used-at-most engine b m)
