-- A run that folds its stores into a window's summary; and that it does not matter how the run is split.
use Rattle.std.specs.Prelude.{ℕ, ◌+◌, ◌≡◌, not, eqb}
use Rattle.bits.specs.Choice.{pick}
use Rattle.plain.specs.Running.{Ran, ran}
use Rattle.cycle.specs.Machine.{Machine}
use Rattle.refusals.specs.Numbers.{refusal}
use Rattle.runs.specs.Run.{run_from}
use Rattle.pipeline.specs.Calls.{run}
use Rattle.link.specs.declared.Window.{Window}
use Rattle.link.specs.declared.Summary.{Summary}
use Rattle.link.specs.Window.{handed, bad_window, window_refused}
use Rattle.link.specs.Summary.{summed}
use Rattle.stores.specs.Coming.{stored}

-- what a run comes to, and the summary then
pub record Rated : Type 0 where
  pub ran : Ran Machine
  pub summary : Summary

abbrev pub rated : Ran Machine → Summary → Rated
rated r s = record { ran = r; summary = s }

-- with the stores of so many cycles from m on
abbrev pub with_stores : Window → Summary → Machine → Ran Machine → Rated
with_stores w s m r = rated r (summed s (handed w (stored m r.used)))

abbrev pub rate_from : ℕ → Window → Summary → Machine → Rated
rate_from budget w s m = with_stores w s m (run_from budget m)

-- refused as a run is, then for a bad window; either hands everything back
unfoldable pub rate_run : ℕ → ℕ → Window → Summary → Machine → Rated
rate_run lent budget w s m =
    pick (not (eqb (refusal lent budget m) 0)) (rated (ran (refusal lent budget m) 0 m) s)
    (pick (bad_window w lent) (rated (ran window_refused 0 m) s)
    (with_stores w s m (run lent budget m)))

-- after a cycles
abbrev pub after : ℕ → Rated → Rated
after a r = rated (ran r.ran.answer (a + r.ran.used) r.ran.machine) r.summary

-- a run that spends its budget, and one after it, are one run
abbrev pub Split : Type 0
Split = (a b : ℕ) (w : Window) (s : Summary) (m : Machine) → (run_from a m).answer ≡ 0
    → rate_from (a + b) w s m ≡ after a (rate_from b w (rate_from a w s m).summary (run_from a m).machine)
