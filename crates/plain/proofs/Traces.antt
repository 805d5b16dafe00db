-- The trace is what the machine's own runs come to.
-- Assumes nothing.
use Prim.Native.Nat.{ℕ, zero, suc, ◌+◌, ◌<◌}
use mathlib.Core.Path.{◌≡◌, refl, sym, ap, ◌∙◌}
use mathlib.Core.Logic.{◌≢◌}
use native.Mathlib.Nat.{add-zero}
use native.Mathlib.Omega.{arith}
use mathlib.Core.Bool.{Bool, true, false}
use lib.Dec.{eqb}
use lib.ListN.{length}
use borrow.Author.Tests.{eqb-false}
use Rattle.bits.specs.Choice.{pick}
use Rattle.plain.specs.Machine.{Machine, step}
use Rattle.plain.specs.Numbers.{refusal}
use Rattle.plain.specs.Running.{Ran, ran, one_more, runs}
use Rattle.plain.specs.Run.{engine, run_from, run}
use Rattle.plain.proofs.Running.{found}
use Rattle.plain.specs.Trace.{trace, stop_met, Does, Traced}

-- a step, and then k more
trace-front : (m : Machine) (k : ℕ) → trace (step m) k ≡ trace m (suc k)
unfolding trace
trace-front m zero = refl
trace-front m (suc k) = ap step (trace-front m k)

goes_on : (m : Machine) (j k : ℕ) → trace (trace m j) k ≡ trace m (j + k)
unfolding trace
goes_on m j zero = ap (trace m) (sym (add-zero j))
goes_on m j (suc k) =
    let e : suc (j + k) ≡ j + suc k = omega arith in
    ap step (goes_on m j k) ∙ ap (trace m) e

-- the stop that a step leaves is the one met
pub step-stop : (m : Machine) → (step m).plain.stop ≡ stop_met m
unfolding step stop_met
step-stop m = refl

does-first : (m : Machine) (k : ℕ) → (step m).plain.stop ≡ 0 → Does (step m) k → Does m (suc k)
unfolding trace
does-first m k e d zero h = sym (step-stop m) ∙ e
does-first m k e d (suc j) h = ap stop_met (sym (trace-front m j)) ∙ d j (omega arith)

-- ---- the loop

-- spent, or stopped after k of n
abbrev Spent : ℕ → Machine → Ran Machine → Type 0
Spent n m r = (r ≡ ran 0 n (trace m n)) × Does m n

record Found (n : ℕ) (m : Machine) (r : Ran Machine) : Type 0 where
  less : r.used < n
  does : Does m r.used
  stop : stop_met (trace m r.used) ≡ r.answer
  leaves : r.machine ≡ trace m (suc r.used)

from-spent : (n : ℕ) (m : Machine) → (run_from n m).answer ≡ 0 → Spent n m (run_from n m)
unfolding runs trace
from-spent zero m e = (refl, λ j h. absurd (omega arith))
from-spent (suc n) m e = go (step m).plain.stop refl (from-spent n (step m)) e
  where
    go : (q : ℕ) → (step m).plain.stop ≡ q → ((run_from n (step m)).answer ≡ 0 → Spent n (step m) (run_from n (step m)))
        → (found engine q n m).answer ≡ 0
        → Spent (suc n) m (found engine q n m)
    go zero z ih e = (ap one_more (ih e).0 ∙ ap (ran 0 (suc n)) (trace-front m n), does-first m n z (ih e).1)
    go (suc q) z ih e = absurd (omega arith)

from-stopped : (n : ℕ) (m : Machine) → m.plain.stop ≡ 0 → (run_from n m).machine.plain.stop ≢ 0 → Found n m (run_from n m)
unfolding runs trace
from-stopped zero m z e = absurd (e z)
from-stopped (suc n) m z e = go (step m).plain.stop refl (from-stopped n (step m)) e
  where
    go : (q : ℕ) → (step m).plain.stop ≡ q
        → ((step m).plain.stop ≡ 0 → (run_from n (step m)).machine.plain.stop ≢ 0 → Found n (step m) (run_from n (step m)))
        → (found engine q n m).machine.plain.stop ≢ 0
        → Found (suc n) m (found engine q n m)
    go zero z ih e =
        let f = ih z e in
        let k = (run_from n (step m)).used in
        record {
          less = omega (arith, f.less);
          does = does-first m k z f.does;
          stop = ap stop_met (sym (trace-front m k)) ∙ f.stop;
          leaves = f.leaves ∙ trace-front m (suc k);
        }
    go (suc q) z ih e =
        record { less = omega arith; does = λ j h. absurd (omega arith); stop = sym (step-stop m) ∙ z; leaves = refl }

-- ---- the run

module _ (n : ℕ) (m : Machine) where
  abbrev refused : ℕ
  refused = refusal m.plain (length m.memory) n

  abbrev held : Bool → Ran Machine
  held b = pick b (run_from n m) (ran m.plain.stop 0 m)

  spent : (run n m).answer ≡ 0 → (run n m ≡ ran 0 n (trace m n)) × Does m n
  unfolding run
  spent = by-refusal (eqb refused 0) refl
    where
      by-stop : (b : Bool) → eqb m.plain.stop 0 ≡ b → (held b).answer ≡ 0 → Spent n m (held b)
      by-stop true t e = from-spent n m e
      by-stop false t e = absurd (eqb-false _ _ t e)

      by-refusal : (b : Bool) → eqb refused 0 ≡ b → (pick b (held (eqb m.plain.stop 0)) (ran refused 0 m)).answer ≡ 0
          → Spent n m (pick b (held (eqb m.plain.stop 0)) (ran refused 0 m))
      by-refusal true t e = by-stop (eqb m.plain.stop 0) refl e
      by-refusal false t e = absurd (eqb-false _ _ t e)

  halted : m.plain.stop ≡ 0 → (run n m).machine.plain.stop ≢ 0 → Found n m (run n m)
  unfolding run
  halted z = by-refusal (eqb refused 0)
    where
      by-stop : (b : Bool) → (held b).machine.plain.stop ≢ 0 → Found n m (held b)
      by-stop true e = from-stopped n m z e
      by-stop false e = absurd (e z)

      by-refusal : (b : Bool) → (pick b (held (eqb m.plain.stop 0)) (ran refused 0 m)).machine.plain.stop ≢ 0
          → Found n m (pick b (held (eqb m.plain.stop 0)) (ran refused 0 m))
      by-refusal true e = by-stop (eqb m.plain.stop 0) e
      by-refusal false e = absurd (e z)

pub traced : Traced
traced = record {
  spent = spent;
  stopped = λ n m z e. let f = halted n m z e in record { less = f.less; does = f.does; stop = f.stop; leaves = f.leaves };
  goes_on = goes_on;
}
