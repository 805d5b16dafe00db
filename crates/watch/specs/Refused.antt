-- What the call hands back, in the paper's numbers; 58 is its own.
use Rattle.std.specs.Prelude.{ℕ, Result, Ok, Err}
use Rattle.plain.specs.Refused.{number_of}
use Rattle.plain.specs.Running.{ran}
use Rattle.plain.specs.Told.{ran_to}
use Rattle.cycle.specs.Machine.{Machine}
use Rattle.pipeline.specs.declared.Core.{Core}
use Rattle.link.specs.declared.Summary.{Summary}
use Rattle.link.specs.Window.{window_refused}
use Rattle.watch.specs.declared.calls.Refused.{Refused}
use Rattle.watch.specs.declared.calls.Refused.TheVariants.{Run, Window}
use Rattle.watch.specs.declared.calls.RatedCore.{RatedCore}
use Rattle.watch.specs.Rated.{Rated, rated}

abbrev pub refused_number : Refused → ℕ
refused_number (Run refusal) = number_of refusal
refused_number Window = window_refused

-- a refused one has used nothing and changed nothing
abbrev pub rated_as : (Core → Machine) → Core → Summary → Result RatedCore Refused → Rated
rated_as seen core s (Ok r) = rated (ran_to seen r.ran) r.summary
rated_as seen core s (Err refusal) = rated (ran (refused_number refusal) 0 (seen core)) s
