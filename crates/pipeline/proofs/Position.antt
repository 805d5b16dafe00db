-- Where the core stands after t cycles: n cycles before the boundary after k instructions.
-- Assumes nothing.
use Prim.Native.Nat.{ℕ, zero, suc, pred, ◌+◌, ◌≤◌, ◌<◌}
use mathlib.Core.Path.{◌≡◌, refl, sym, ◌∙◌}
use mathlib.Core.List.{List}
use mathlib.Core.Logic.{⊎_elim}
use native.Mathlib.Omega.{arith}
use native.Mathlib.Nat.{eq-or-lt_of_le, le_of_suc-le-suc}
use lib.ListN.{length}
use Rattle.plain.specs.Machine as plain
use Rattle.semantics.specs.Sums.{no_sums, plus, total, start_sums}
use Rattle.plain.specs.Trace.{trace, stop_met, duration, durations, adds, added, Does}
use Rattle.plain.proofs.WholeSteps.{adds-timed, plus-plus}
use Rattle.datapath.specs.Counter.{counters}
use Rattle.memory.specs.Lengths.{most_bytes}
use Rattle.cycle.specs.declared.Counts.{Counts}
use Rattle.cycle.specs.Machine.{Machine, machine, counts}
use Rattle.cycle.specs.Cycle.{cycle, own_of}
use Rattle.cycle.specs.StopFound.{stop_found}
use Rattle.cycle.specs.Fresh.{fresh_control}
use Rattle.runs.specs.Run.{reach}
use Rattle.pipeline.specs.Term3.{sums, sums_there}
use Rattle.runs.specs.Boundary.{boundary, lead}
use Rattle.runs.proofs.Flight.{Flight, climb, climb-add, turn44}
use Rattle.runs.proofs.PlainSteps.{boundary-stop, flight, duration-flight, flight-short, instruction, step_range, step-board}
use Rattle.pipeline.proofs.Sound.{Sound, cycle-sound}

-- what accepted starts hand back
abbrev pub beginning : List ℕ → ℕ → ℕ → List ℕ → Machine
beginning g flags entry mem = machine g (fresh_control flags entry (record { size = length mem })) mem

abbrev pub plain_beginning : List ℕ → ℕ → ℕ → List ℕ → plain.Machine
plain_beginning g flags entry mem = plain.machine (plain.plain g entry flags 0 (record { size = length mem })) mem

-- the counts on the boundary after k instructions
abbrev pub counts_there : plain.Machine → ℕ → Counts
counts_there p k = counts (sums p k) k (sums_there p k)

-- those of the last boundary before it; before that of the start they are 0
abbrev pub counts_last : plain.Machine → ℕ → Counts
counts_last p zero = counts 0 0 no_sums
counts_last p (suc k) = counts_there p k

pub last-retired : (p : plain.Machine) (k : ℕ) → (counts_last p k).retired ≡ pred k
last-retired p zero = refl
last-retired p (suc k) = refl

-- the start's two refills
pub started : (g : List ℕ) (flags entry : ℕ) (mem : List ℕ)
    → Flight (counts 0 0 no_sums) 0 2 (beginning g flags entry mem) (boundary (plain_beginning g flags entry mem) (counts_there (plain_beginning g flags entry mem) 0))
unfolding cycle own_of boundary lead sums sums_there durations added
started g flags entry mem = (
  record { off = refl; retired = refl; sums = refl; beyond = refl },
  (record { off = refl; retired = refl; sums = refl; beyond = refl }, rw (turn44 entry)),
)

pub sums-step : (p : plain.Machine) (k : ℕ) → sums p (suc k) ≡ sums p k + duration (trace p k)
unfolding sums durations
sums-step p k = omega arith

sums-there-step : (p : plain.Machine) (k : ℕ) → sums_there p (suc k) ≡ plus (sums_there p k) (adds (trace p k))
unfolding sums_there added
sums-there-step p k = plus-plus start_sums (added p k) (adds (trace p k))

-- the three sums are the cycles on each boundary
pub sums-timed : (p : plain.Machine) (k : ℕ) → total (sums_there p k) ≡ sums p k
unfolding sums_there added sums durations
sums-timed p zero = refl
sums-timed p (suc k) =
    let before : total (plus start_sums (added p k)) ≡ 2 + durations p k = unfold sums_there sums in sums-timed p k in
    omega (arith, before, adds-timed (trace p k))

module _ (p : plain.Machine) (m₀ : Machine) (range : p.plain.a < counters) (short : p.plain.board.size ≤ most_bytes) where
  pub ranged : (k : ℕ) → (trace p k).plain.a < counters
  unfolding trace
  ranged zero = range
  ranged (suc k) = step_range (trace p k) (ranged k)

  pub shorted : (k : ℕ) → (trace p k).plain.board.size ≤ most_bytes
  unfolding trace
  shorted zero = short
  shorted (suc k) = rw (step-board (trace p k)) (shorted k)

  -- u is what the cycles are beyond the durations of the instructions retired
  pub record Pos (t : ℕ) : Type 0 where
    pub k : ℕ
    pub n : ℕ
    pub u : ℕ
    pub does : Does p k
    pub total : t + n ≡ sums p k
    pub past : (j : ℕ) → k ≡ suc j → sums p j < t
    pub flying : Flight (counts_last p k) u n (reach m₀ t) (boundary (trace p k) (counts_there p k))
    pub counted : t ≡ durations p (pred k) + u
    pub bound : n ≤ 19
    pub sound : Sound (reach m₀ t)

  does-more : {k : ℕ} → Does p k → stop_met (trace p k) ≡ 0 → Does p (suc k)
  does-more d e j h = ⊎_elim (λ i. rw i e) (λ l. d j l) (eq-or-lt_of_le (le_of_suc-le-suc h))

  -- at the boundary after k instructions, with no stop there
  leave : {t : ℕ} (k : ℕ) → Sound (reach m₀ t) → Does p k → t ≡ sums p k → reach m₀ t ≡ boundary (trace p k) (counts_there p k)
      → stop_found (reach m₀ t) ≡ 0 → Pos (suc t)
  unfolding reach trace
  leave {t} k sd d e₁ f e =
      let quiet : stop_met (trace p k) ≡ 0 = sym (boundary-stop (trace p k) (counts_there p k) (ranged k)) ∙ rw f at e in
      let next : sums p (suc k) ≡ suc (sums p k) + flight (trace p k) = omega (arith, sums-step p k, duration-flight (trace p k) quiet) in
      let long : sums p (suc k) ≡ climb (flight (trace p k)) (suc (sums p k)) = omega (arith, climb-add (flight (trace p k)) (suc (sums p k))) in
      record {
        k = suc k;
        n = flight (trace p k);
        u = 3;
        does = does-more d quiet;
        total = omega arith;
        past = λ j h. let i : j ≡ k = omega arith in rw i (omega arith);
        flying = rw (f, long, sums-there-step p k) (instruction (trace p k) (counts_there p k) (ranged k) (shorted k) quiet);
        counted = e₂;
        bound = flight-short (trace p k);
        sound = cycle-sound (reach m₀ t) sd e;
      }
    where
      e₂ : suc t ≡ durations p k + 3
      e₂ = unfold sums in omega arith

  pub advance : {t : ℕ} → Pos t → stop_found (reach m₀ t) ≡ 0 → Pos (suc t)
  unfolding reach
  advance {t} c e = go c.n c.u c.total c.flying c.counted c.bound
    where
      go : (n u : ℕ) → t + n ≡ sums p c.k → Flight (counts_last p c.k) u n (reach m₀ t) (boundary (trace p c.k) (counts_there p c.k))
          → t ≡ durations p (pred c.k) + u → n ≤ 19 → Pos (suc t)
      go zero u e₁ f i b = leave c.k c.sound c.does (omega arith) f e
      go (suc n) u e₁ f i b = record {
        k = c.k;
        n = n;
        u = suc u;
        does = c.does;
        total = omega arith;
        past = λ j h. omega (arith, c.past j h);
        flying = f.1;
        counted = omega arith;
        bound = omega arith;
        sound = cycle-sound (reach m₀ t) c.sound e;
      }
