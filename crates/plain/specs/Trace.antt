-- The plain machine after k instructions, and the durations and the sums of those: what the theorem on the core speaks of.
use Rattle.std.specs.Prelude.{ℕ, zero, suc, ◌+◌, ◌<◌, ◌≡◌, ◌≢◌}
use Rattle.memory.specs.Memory.{word_at}
use Rattle.semantics.specs.declared.Sums.{Sums}
use Rattle.semantics.specs.Sums.{no_sums, plus, performs_sums}
use Rattle.plain.specs.Machine.{Machine, state_of, step, performed_at}
use Rattle.plain.specs.Running.{ran}
use Rattle.plain.specs.Run.{run}

unfoldable pub trace : Machine → ℕ → Machine
trace m zero = m
trace m (suc k) = step (trace m k)

-- the stop met where it stands, or 0
unfoldable pub stop_met : Machine → ℕ
stop_met m = (performed_at m).performed.stop

-- the cycles that the instruction at hand takes
unfoldable pub duration : Machine → ℕ
duration m = (performed_at m).performed.cycles

-- the durations of the first k instructions
unfoldable pub durations : Machine → ℕ → ℕ
durations m zero = 0
durations m (suc k) = durations m k + duration (trace m k)

-- the sums that it adds
unfoldable pub adds : Machine → Sums
adds m = performs_sums (word_at (state_of m).memory m.plain.a) (state_of m)

-- those of the first k instructions
unfoldable pub added : Machine → ℕ → Sums
added m zero = no_sums
added m (suc k) = plus (added m k) (adds (trace m k))

-- it does k instructions before its stop
abbrev pub Does : Machine → ℕ → Type 0
Does m k = (j : ℕ) → j < k → stop_met (trace m j) ≡ 0

-- a run of count n found a stop after k of them
pub record Halted (n : ℕ) (m : Machine) (k : ℕ) : Type 0 where
  pub less : k < n
  pub does : Does m k
  pub stop : stop_met (trace m k) ≡ (run n m).answer
  pub leaves : (run n m).machine ≡ trace m (suc k)

-- the trace is what the machine's own runs come to
pub record Traced : Type 0 where
  -- a run that is neither refused nor stopped does its count, and stands there
  pub spent : (n : ℕ) (m : Machine) → (run n m).answer ≡ 0 → (run n m ≡ ran 0 n (trace m n)) × Does m n
  -- one of a machine that holds no stop and answers one did the instructions before it
  pub stopped : (n : ℕ) (m : Machine) → m.plain.stop ≡ 0 → (run n m).machine.plain.stop ≢ 0 → Halted n m (run n m).used
  -- and a list of runs goes on from there
  pub goes_on : (m : Machine) (j k : ℕ) → trace (trace m j) k ≡ trace m (j + k)
