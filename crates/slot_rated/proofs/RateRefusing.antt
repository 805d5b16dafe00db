-- A watched run whose answer is a refusal left everything as it was: no stop is a refusal, nor 58. Assumes nothing.
use Prim.Native.Nat.{ℕ, zero, suc, ◌≤◌}
use native.Mathlib.Omega.{arith}
use mathlib.Core.Path.{◌≡◌, refl, sym, ◌∙◌}
use mathlib.Core.Logic.{⊎_elim}
use mathlib.Core.Bool.{Bool, true, false, ◌&&◌, ◌||◌, false≢true}
use lib.Dec.{eqb, leb}
use borrow.Author.Tests.{eqb-true, ne_eqb, leb-true}
use Rattle.bits.specs.Choice.{pick}
use Rattle.plain.specs.Numbers.{is_stop}
use Rattle.plain.specs.Running.{ran, runs, unless}
use Rattle.plain.proofs.Running.{found}
use Rattle.cycle.specs.Machine.{Machine}
use Rattle.cycle.specs.StopFound.{stop_found}
use Rattle.refusals.specs.Numbers.{refusal}
use Rattle.refusals.proofs.Refusals.{granted}
use Rattle.runs.specs.Run.{engine, run_from}
use Rattle.runs.proofs.PlainSteps.{Stop, stop-for}
use Rattle.pipeline.specs.Calls.{run}
use Rattle.link.specs.declared.Window.{Window}
use Rattle.link.specs.declared.Summary.{Summary}
use Rattle.link.specs.Window.{bad_window}
use Rattle.watch.specs.Rated.{rated, rate_run}
use Rattle.slot_rated.specs.Rate.{is_rate_refusal}
use Rattle.array_calls.proofs.Refusing.{core_accepted}

-- ---- no answer of an accepted run is above 25

held-low : (q : ℕ) → is_stop q ≡ true → q ≤ 25
held-low q = go (eqb q 0) refl (leb 21 q) (leb q 25) refl
  where
    go : (b : Bool) → eqb q 0 ≡ b → (d e : Bool) → leb q 25 ≡ e → (b || (d && e)) ≡ true → q ≤ 25
    go true e d f g h = omega (arith, eqb-true q 0 e)
    go false e true true g h = leb-true q 25 g
    go false e true false g h = absurd (false≢true h)
    go false e false f g h = absurd (false≢true h)

found-low : (m : Machine) → stop_found m ≤ 25
unfolding stop_found
found-low m = go _ _ (low (stop-for _ _))
  where
    low : {q : ℕ} → Stop q → q ≤ 25
    low h = ⊎_elim (λ e. omega (arith, e)) (λ r. r.1) h

    go : (b : Bool) (q : ℕ) → q ≤ 25 → pick b q 0 ≤ 25
    go true q h = h
    go false q h = omega arith

runs-low : (n : ℕ) (m : Machine) → (run_from n m).answer ≤ 25
unfolding runs
runs-low zero m = omega arith
runs-low (suc n) m = go (stop_found m) (found-low m) (runs-low n (engine.next m))
  where
    go : (q : ℕ) → q ≤ 25 → (runs engine n (engine.next m)).answer ≤ 25 → (found engine q n m).answer ≤ 25
    go zero h k = k
    go (suc q) h k = h

module _ (lent budget : ℕ) (m : Machine) where
  run-low : refusal lent budget m ≡ 0 → (run lent budget m).answer ≤ 25
  unfolding run
  run-low e = rw e (go m.control.stop (held-low m.control.stop (granted lent budget m e).standing))
    where
      go : (q : ℕ) → q ≤ 25 → (unless q m (run_from budget m)).answer ≤ 25
      go zero h = runs-low budget m
      go (suc q) h = rw (ne_eqb (suc q) 0 (λ e. omega arith)) h

  pub run-other : refusal lent budget m ≡ 0 → is_rate_refusal (run lent budget m).answer ≡ false
  run-other e =
      let low : (run lent budget m).answer ≤ 25 = run-low e in
      rw (core_accepted lent budget m e, ne_eqb (run lent budget m).answer 58 (λ z. omega (arith, low, z)))

  -- a watched run whose answer is a refusal changed nothing
  module _ (w : Window) (s : Summary) where
    pub rate-kept : is_rate_refusal (rate_run lent budget w s m).ran.answer ≡ true → rate_run lent budget w s m ≡ rated (ran (rate_run lent budget w s m).ran.answer 0 m) s
    unfolding rate_run
    rate-kept = go (refusal lent budget m) refl (bad_window w lent) refl
      where
        go : (r : ℕ) → refusal lent budget m ≡ r → (b : Bool) → bad_window w lent ≡ b → is_rate_refusal (rate_run lent budget w s m).ran.answer ≡ true
            → rate_run lent budget w s m ≡ rated (ran (rate_run lent budget w s m).ran.answer 0 m) s
        go zero e true f h = rw (e, f)
        go zero e false f h = absurd (false≢true (sym (run-other e) ∙ (rw (e, f) at h)))
        go (suc q) e b f h = rw (e, ne_eqb (suc q) 0 (λ z. omega arith))
