-- A run of either machine whose answer is a refusal left the machine as it was: no stop is a refusal. Assumes nothing.
use Prim.Native.Nat.{ℕ, zero, suc, ◌+◌, ◌≤◌}
use native.Mathlib.Omega.{arith}
use mathlib.Core.Path.{◌≡◌, refl, sym, ◌∙◌}
use mathlib.Core.Logic.{⊎_elim}
use mathlib.Core.Bool.{Bool, true, false, not, ◌&&◌, ◌||◌, and-false, false≢true}
use lib.Dec.{eqb, leb, ltb}
use lib.ListN.{length}
use borrow.Author.Tests.{eqb-true, ne_eqb, leb-true, lt-leb, not-false}
use Rattle.bits.specs.Choice.{pick}
use Rattle.cycle.specs.Machine as pipelined
use Rattle.cycle.specs.StopFound.{is_step1, stop_found}
use Rattle.refusals.specs.Numbers as numbers
use Rattle.refusals.proofs.Refusals.{granted}
use Rattle.pipeline.specs.Calls as pipeline
use Rattle.runs.specs.Run as run
use Rattle.runs.proofs.PlainSteps.{Stop, stop-for, stop-met}
use Rattle.plain.specs.Machine as unpiped
use Rattle.memory.specs.Lengths.{bad_length}
use Rattle.plain.specs.Numbers.{bad_flags, is_counter, is_stop}
use Rattle.plain.specs.Numbers as plain_numbers
use Rattle.plain.specs.Running.{ran, Engine, runs, unless}
use Rattle.plain.proofs.Running.{found}
use Rattle.plain.specs.Run as plain
use Rattle.plain.specs.Trace.{stop_met}
use Rattle.array_calls.specs.Calls.{is_refusal}

-- an answer that is no refusal
abbrev Other : ℕ → Type 0
Other answer = is_refusal answer ≡ false

-- ---- no stop is a refusal

stop-other : {q : ℕ} → Stop q → Other q
stop-other {q} h = ⊎_elim (λ e. rw e) (λ r. above r) h
  where
    above : (21 ≤ q) × (q ≤ 25) → Other q
    above r = rw (lt-leb q 20 (omega (arith, r.0))) (and-false (leb 1 q))

held : (q : ℕ) → is_stop q ≡ true → Other q
held q = go (eqb q 0) refl (leb 21 q) refl
  where
    go : (b : Bool) → eqb q 0 ≡ b → (d : Bool) → leb 21 q ≡ d → (b || (d && leb q 25)) ≡ true → Other q
    go true e d f h = rw (eqb-true q 0 e)
    go false e true f h = let above : 21 ≤ q = leb-true 21 q f in rw (lt-leb q 20 (omega arith)) (and-false (leb 1 q))
    go false e false f h = absurd (false≢true h)

second : (a : Bool) {b : Bool} → (a || b) ≡ false → b ≡ false
second true e = absurd (false≢true (sym e))
second false e = e

-- ---- every number that a run refuses with is one

abbrev pub Number : ℕ → Type 0
Number r = (q : ℕ) → r ≡ suc q → is_refusal r ≡ true

or-number : (b : Bool) (q r : ℕ) → is_refusal q ≡ true → Number r → Number (pick b q r)
or-number true q r h k n e = h
or-number false q r h k n e = k n e

no_number : Number 0
no_number q e = absurd (omega arith)

-- an engine whose stops are no refusals answers no refusal
answers : {M : Type 0} (e : Engine M) → ((m : M) → Other (e.finds m)) → (n : ℕ) (m : M) → Other (runs e n m).answer
unfolding runs
answers e h zero m = refl
answers e h (suc n) m = go (e.finds m) (h m) (answers e h n (e.next m))
  where
    go : (q : ℕ) → Other q → Other (runs e n (e.next m)).answer → Other (found e q n m).answer
    go zero h k = k
    go (suc q) h k = h

-- ---- the core

core-found : (m : pipelined.Machine) → Other (stop_found m)
unfolding stop_found
core-found m = go (is_step1 m.control.phase) _ (stop-other (stop-for _ _))
  where
    go : (b : Bool) (q : ℕ) → Other q → Other (pick b q 0)
    go true q h = h
    go false q h = refl

module _ (lent budget : ℕ) (m : pipelined.Machine) where
  pub core-number : Number (numbers.refusal lent budget m)
  unfolding numbers.refusal
  core-number =
      or-number (not (eqb lent m.control.board.size)) 12 _ refl
      (or-number (numbers.bad m) 11 _ refl
      (or-number (plain_numbers.bad_budget budget) 3 _ refl
      (or-number (ltb pipelined.most_cycles (m.control.counts.cycles + budget)) 13 0 refl no_number)))

  holds-stop : numbers.refusal lent budget m ≡ 0 → is_stop m.control.stop ≡ true
  holds-stop e = (granted lent budget m e).standing

  pub core_accepted : numbers.refusal lent budget m ≡ 0 → is_refusal (pipeline.run lent budget m).answer ≡ false
  unfolding pipeline.run
  core_accepted e = rw e (go m.control.stop (held m.control.stop (holds-stop e)))
    where
      go : (q : ℕ) → Other q → Other (unless q m (run.run_from budget m)).answer
      go zero h = answers run.engine core-found budget m
      go (suc q) h = rw (ne_eqb (suc q) 0 (λ e. omega arith)) h

  -- a run whose answer is a refusal changed nothing
  pub core-kept : is_refusal (pipeline.run lent budget m).answer ≡ true → pipeline.run lent budget m ≡ ran (pipeline.run lent budget m).answer 0 m
  unfolding pipeline.run
  core-kept = go (numbers.refusal lent budget m) refl
    where
      go : (r : ℕ) → numbers.refusal lent budget m ≡ r → is_refusal (pipeline.run lent budget m).answer ≡ true
          → pipeline.run lent budget m ≡ ran (pipeline.run lent budget m).answer 0 m
      go zero e h = absurd (false≢true (sym (core_accepted e) ∙ h))
      go (suc q) e h = rw (e, ne_eqb (suc q) 0 (λ z. omega arith))

-- ---- the plain machine

plain-found : (m : unpiped.Machine) → Other (unpiped.step m).plain.stop
unfolding unpiped.step stop_met
plain-found m = stop-other (stop-met m)

module _ (count : ℕ) (m : unpiped.Machine) where
  abbrev refusal : ℕ
  refusal = plain_numbers.refusal m.plain (length m.memory) count

  pub plain-number : Number refusal
  unfolding plain_numbers.refusal
  plain-number =
      or-number (not (eqb (length m.memory) m.plain.board.size)) 12 _ refl
      (or-number (plain_numbers.bad m.plain) 11 _ refl
      (or-number (plain_numbers.bad_budget count) 3 0 refl no_number))

  plain-holds-stop : refusal ≡ 0 → is_stop m.plain.stop ≡ true
  unfolding plain_numbers.refusal plain_numbers.bad
  plain-holds-stop = go (not (eqb (length m.memory) m.plain.board.size)) (plain_numbers.bad m.plain) (plain_numbers.bad_budget count) refl
    where
      go : (a b k : Bool) → plain_numbers.bad m.plain ≡ b → pick {A = ℕ} a 12 (pick b 11 (pick k 3 0)) ≡ 0 → is_stop m.plain.stop ≡ true
      go true b k p e = absurd (omega arith)
      go false true k p e = absurd (omega arith)
      go false false k p e = not-false (is_stop m.plain.stop) (second (bad_length m.plain.board.size || not (is_counter m.plain.a) || bad_flags m.plain.flags) p)

  pub plain-accepted : refusal ≡ 0 → is_refusal (plain.run count m).answer ≡ false
  unfolding plain.run
  plain-accepted e = rw e (go m.plain.stop (held m.plain.stop (plain-holds-stop e)))
    where
      go : (q : ℕ) → Other q → Other (unless q m (plain.run_from count m)).answer
      go zero h = answers plain.engine plain-found count m
      go (suc q) h = rw (ne_eqb (suc q) 0 (λ e. omega arith)) h

  pub plain-kept : is_refusal (plain.run count m).answer ≡ true → plain.run count m ≡ ran (plain.run count m).answer 0 m
  unfolding plain.run
  plain-kept = go refusal refl
    where
      go : (r : ℕ) → refusal ≡ r → is_refusal (plain.run count m).answer ≡ true → plain.run count m ≡ ran (plain.run count m).answer 0 m
      go zero e h = absurd (false≢true (sym (plain-accepted e) ∙ h))
      go (suc q) e h = rw (e, ne_eqb (suc q) 0 (λ z. omega arith))
