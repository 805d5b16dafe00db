-- A run that ends before its first cycle, refused or with a stop held, and one that goes on.
-- Assumes nothing.
use Prim.Native.Nat.{ℕ}
use mathlib.Core.Path.{◌≡◌, refl, sym, ap, ◌∙◌}
use mathlib.Core.Bool.{Bool, true, false}
use lib.Dec.{eqb}
use borrow.Author.Tests.{eqb-true}
use Rattle.bits.specs.Choice.{pick}
use Rattle.cycle.specs.Machine.{Machine}
use Rattle.refusals.specs.Numbers.{refusal, at_once}
use Rattle.refusals.proofs.Refusals.{Granted, granted}
use Rattle.plain.specs.Running.{Ran, ran, unless}
use Rattle.plain.proofs.Running.{ends_by, goes_by}
use Rattle.runs.specs.Run.{run_from}
use Rattle.pipeline.specs.Calls.{run}

-- one number for both
either : (m : Machine) (r : Ran Machine) (x y : ℕ) → unless (pick (eqb x 0) y x) m r ≡ unless x m (unless y m r)
either m r x y = go (eqb x 0) refl
  where
    go : (b : Bool) → eqb x 0 ≡ b → unless (pick b y x) m r ≡ pick b (unless y m r) (ran x 0 m)
    go true e = refl
    go false e = rw e

module _ (lent budget : ℕ) (m : Machine) {q : ℕ} (e : q ≡ at_once lent budget m) where
  run_is : unless q m (run_from budget m) ≡ run lent budget m
  unfolding run
  run_is = ap (λ x. unless x m (run_from budget m)) e ∙ either m (run_from budget m) (refusal lent budget m) m.control.stop

  pub ended : (q ≡ 0 → ⊥) → ran q 0 m ≡ run lent budget m
  ended n = ends_by m (run_from budget m) refl n ∙ run_is

  pub begun : q ≡ 0 → {r : Ran Machine} → r ≡ run_from budget m → r ≡ run lent budget m
  begun z w = w ∙ goes_by m (run_from budget m) refl z ∙ run_is

  pub room : q ≡ 0 → Granted budget m.control
  room z = granted lent budget m (go (eqb (refusal lent budget m) 0) refl (sym e ∙ z))
    where
      go : (b : Bool) → eqb (refusal lent budget m) 0 ≡ b → pick b m.control.stop (refusal lent budget m) ≡ 0 → refusal lent budget m ≡ 0
      go true t k = eqb-true _ _ t
      go false t k = k
