-- What a watched run answers and leaves in the arrays.
use Rattle.std.specs.Prelude.{ℕ, List, Result, Ok, Err}
use Rattle.stops.specs.Numbers.{held_number}
use Rattle.watch.specs.declared.calls.RatedCore.{RatedCore}
use Rattle.watch.specs.declared.calls.Refused.{Refused}
use Rattle.watch.specs.Refused.{refused_number}
use Rattle.core_arrays.specs.CoreArray as core_array
use Rattle.summary_arrays.specs.SummaryArray as summary_array
use Rattle.array_calls.specs.Calls.{called}
use Rattle.slot_rated.specs.Rate.{RateCalled, rate_called, rate_refused}

-- on these words and this summary's, and the memory that it left
abbrev pub rate_ended_in : List ℕ → List ℕ → List ℕ → Result RatedCore Refused → RateCalled
rate_ended_in words sum mem (Ok r) = rate_called (called (held_number r.ran.stop) r.ran.used (core_array.packed r.ran.machine) mem) (summary_array.packed r.summary)
rate_ended_in words sum mem (Err refusal) = rate_refused (refused_number refusal) words mem sum
