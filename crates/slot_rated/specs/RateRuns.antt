-- A watched run beside the run, on arrays: watching changes nothing, 58 comes last, and the summary does not depend on how a run is split.
use Rattle.std.specs.Prelude.{ℕ, ◌+◌, ◌≡◌, true, false, List, length}
use Rattle.link.specs.declared.Window.{Window}
use Rattle.link.specs.Window.{handed, bad_window}
use Rattle.link.specs.Summary.{summed}
use Rattle.cycle.specs.Machine.{Machine}
use Rattle.runs.specs.Run.{run_from}
use Rattle.stores.specs.Coming.{stored}
use Rattle.watch.specs.Rated.{rate_from}
use Rattle.core_arrays.specs.CoreArray as core_array
use Rattle.summary_arrays.specs.SummaryArray.{packed, unpacked}
use Rattle.array_calls.specs.Calls.{is_refusal, core_machine, core_run}
use Rattle.slot_rated.specs.Rate.{rate_run, rate_refused}

-- of any arrays and memory, whatever the budget and the window
pub record RateRuns (words mem : List ℕ) (budget : ℕ) (w : Window) (sum : List ℕ) : Type 0 where
  -- What refuses the run refuses the watched one, with the same number.
  pub refuses : is_refusal (core_run words mem budget).answer ≡ true → rate_run words mem budget w sum ≡ rate_refused (core_run words mem budget).answer words mem sum
  -- Where the run is not refused, also where it repeats a stop, a bad window is refused with 58.
  pub bad : is_refusal (core_run words mem budget).answer ≡ false → bad_window w (length mem) ≡ true → rate_run words mem budget w sum ≡ rate_refused 58 words mem sum
  -- Else answer, cycles, core and memory are those of the run.
  pub runs : is_refusal (core_run words mem budget).answer ≡ false → bad_window w (length mem) ≡ false → (rate_run words mem budget w sum).run ≡ core_run words mem budget
  -- And the summary has more by the stores into the window of the cycles that the run counts.
  pub sums : is_refusal (core_run words mem budget).answer ≡ false → bad_window w (length mem) ≡ false
      → (rate_run words mem budget w sum).summary ≡ packed (summed (unpacked sum) (handed w (stored (core_machine (core_array.unpacked words) mem) (core_run words mem budget).used)))

-- the summary's array after a run of a cycles, taken for one of b more, is that of one run of a + b
abbrev pub Splits : Type 0
Splits = (a b : ℕ) (w : Window) (sum : List ℕ) (m : Machine) → (run_from a m).answer ≡ 0
    → let between = packed (rate_from a w (unpacked sum) m).summary in
    packed (rate_from (a + b) w (unpacked sum) m).summary ≡ packed (rate_from b w (unpacked between) (run_from a m).machine).summary
