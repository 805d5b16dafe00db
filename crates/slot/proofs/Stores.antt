-- What is told of the coming cycle is what a run of one cycle writes, proved. Assumes nothing.
use Prim.Native.Nat.{ℕ, zero, suc}
use native.Mathlib.Omega.{arith}
use mathlib.Core.Path.{◌≡◌, refl, sym, ap, ◌∙◌}
use mathlib.Core.Bool.{Bool, true, false, false≢true}
use mathlib.Core.List.{List}
use lib.Dec.{eqb}
use lib.ListN.{length}
use borrow.Author.Tests.{ne_eqb}
use Rattle.bits.specs.Choice.{pick}
use Rattle.plain.specs.Running.{Ran, runs, unless}
use Rattle.plain.proofs.Running.{runs_by}
use Rattle.steps.specs.declared.Phase.{Phase}
use Rattle.steps.specs.declared.Phase.TheVariants.{Step1, Refill1, Refill2, Later}
use Rattle.cycle.specs.Machine.{Machine}
use Rattle.cycle.specs.Cycle.{cycle}
use Rattle.cycle.specs.StopFound.{stop_found}
use Rattle.refusals.specs.Numbers.{refusal}
use Rattle.runs.specs.Run.{engine, run_from}
use Rattle.runs.proofs.BoundaryRuns.{run_on}
use Rattle.pipeline.specs.Calls.{run}
use Rattle.stores.specs.Coming.{write_of, coming, written}
use Rattle.stores.proofs.Laws.{writes-so}
use Rattle.core_arrays.specs.CoreArray as core_array
use Rattle.array_calls.specs.Calls.{Called, is_refusal, refused, core_machine, other_length, array_refusal, refusal_of, core_run}
use Rattle.slot.specs.Store.{core_store}
use Rattle.slot.specs.Stores.{StoresSo}
use Rattle.array_calls.proofs.Refusing.{core-number}
use Rattle.array_calls.proofs.Calling.{array-refused}
use Rattle.array_calls.proofs.Refusals.{core-refusals}
use Rattle.array_calls.proofs.Refused.{array-number}

stands : (words : List ℕ) (lent : ℕ) → refusal_of words lent ≡ 0 → core_array.stands_for_core words ≡ true
stands words lent e = go (other_length lent (core_array.length_in words)) (core_array.stands_for_core words) e
  where
    go : (a b : Bool) → array_refusal a b ≡ 0 → b ≡ true
    go true b h = absurd (omega (arith, h))
    go false true h = refl
    go false false h = absurd (omega (arith, h))

-- a stop is found at a boundary, and nothing is stored there
none-coming : (q : ℕ) (m : Machine) → stop_found m ≡ suc q → (coming m).bytes ≡ 0
unfolding stop_found coming
none-coming q m e = go m.control.phase refl
  where
    go : (p : Phase) → m.control.phase ≡ p → (coming m).bytes ≡ 0
    go Step1 h = rw h
    go Refill1 h = absurd (let z : ◌≡◌ {A = ℕ} 0 (suc q) = rw h at e in omega (arith, z))
    go Refill2 h = absurd (let z : ◌≡◌ {A = ℕ} 0 (suc q) = rw h at e in omega (arith, z))
    go (Later k) h = absurd (let z : ◌≡◌ {A = ℕ} 0 (suc q) = rw h at e in omega (arith, z))

none-left : (m : Machine) → (run_from 0 m).machine.memory ≡ m.memory
unfolding runs
none-left m = refl

-- one cycle
one : (m : Machine) → (run_from 1 m).machine.memory ≡ written (coming m).bytes m
one m = go (stop_found m) refl
  where
    go : (q : ℕ) → stop_found m ≡ q → (run_from 1 m).machine.memory ≡ written (coming m).bytes m
    go zero e = ap (λ (r : Ran Machine). r.machine.memory) (run_on 0 m e) ∙ none-left (cycle m) ∙ writes-so m
    go (suc q) e = ap (λ (r : Ran Machine). r.machine.memory) (runs_by engine 0 m e) ∙ rw (none-coming q m e) refl

module _ (words mem : List ℕ) where
  abbrev m : Machine
  m = core_machine (core_array.unpacked words) mem

  from-here : core_array.stands_for_core words ≡ true → refusal (length mem) 1 m ≡ 0 → (run (length mem) 1 m).machine.memory ≡ written (core_store words mem).bytes m
  unfolding run core_store
  from-here s f = rw (s, f) (go m.control.stop)
    where
      go : (q : ℕ) → (unless q m (run_from 1 m)).machine.memory ≡ written (pick (eqb q 0) (coming m) (write_of 0 0)).bytes m
      go zero = one m
      go (suc q) = rw (ne_eqb (suc q) 0 (λ z. omega arith)) refl

pub stores-so : StoresSo
stores-so words mem h = go (refusal_of words (length mem)) refl (refusal (length mem) 1 (m words mem)) refl
  where
    told : (q : ℕ) → core_run words mem 1 ≡ refused q words mem → is_refusal q ≡ true → ⊥
    told q e i = false≢true (sym h ∙ ap (λ (x : Called). is_refusal x.answer) e ∙ i)

    go : (r : ℕ) → refusal_of words (length mem) ≡ r → (k : ℕ) → refusal (length mem) 1 (m words mem) ≡ k
        → (core_run words mem 1).memory ≡ written (core_store words mem).bytes (m words mem)
    go (suc q) e k f = absurd (told (suc q) (sym (array-refused words mem 1 (sym e) (λ z. omega arith))) (array-number words (length mem) q e))
    go zero e (suc q) f =
        absurd (told (suc q) ((core-refusals words mem 1).refuses q (stands words (length mem) e) f) (ap is_refusal (sym f) ∙ core-number (length mem) 1 (m words mem) q f))
    go zero e zero f =
        let s = stands words (length mem) e in
        ap (λ (x : Called). x.memory) ((core-refusals words mem 1).accepts s f) ∙ from-here words mem s f
