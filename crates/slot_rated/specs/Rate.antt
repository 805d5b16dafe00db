-- What a watched run answers and leaves, on arrays.
use Rattle.std.specs.Prelude.{ℕ, Bool, ◌||◌, List, eqb, length}
use Rattle.bits.specs.Choice.{pick}
use Rattle.link.specs.declared.Window.{Window}
use Rattle.link.specs.Window.{window_refused}
use Rattle.watch.specs.Rated as watch
use Rattle.core_arrays.specs.CoreArray as core_array
use Rattle.summary_arrays.specs.SummaryArray as summary_array
use Rattle.array_calls.specs.Calls.{Called, refused, is_refusal, core_called, core_machine, refusal_of}

-- what a run answers, counts and leaves, and the summary's array
pub record RateCalled : Type 0 where
  pub run : Called
  pub summary : List ℕ

abbrev pub rate_called : Called → List ℕ → RateCalled
rate_called r sum = record { run = r; summary = sum }

-- those of a run, and 58
abbrev pub is_rate_refusal : ℕ → Bool
is_rate_refusal answer = is_refusal answer || eqb answer window_refused

-- a refused call: core, memory and summary as they were lent, with 0 counted
abbrev pub rate_refused : ℕ → List ℕ → List ℕ → List ℕ → RateCalled
rate_refused answer words mem sum = rate_called (refused answer words mem) sum

abbrev pub unless_rate_refused : List ℕ → List ℕ → List ℕ → RateCalled → RateCalled
unless_rate_refused words mem sum r = pick (is_rate_refusal r.run.answer) (rate_refused r.run.answer words mem sum) r

abbrev pub packed : watch.Rated → RateCalled
packed r = rate_called (core_called r.ran) (summary_array.packed r.summary)

-- array, memory, budget, window, summary's array: refused for the array, or what the watched run of the array's core answers and leaves
unfoldable pub rate_run : List ℕ → List ℕ → ℕ → Window → List ℕ → RateCalled
rate_run words mem budget w sum =
    pick (eqb (refusal_of words (length mem)) 0)
    (unless_rate_refused words mem sum
    (packed (watch.rate_run (length mem) budget w (summary_array.unpacked sum) (core_machine (core_array.unpacked words) mem))))
    (rate_refused (refusal_of words (length mem)) words mem sum)
