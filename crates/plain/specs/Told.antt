-- What the calls of either machine hand back, in the paper's numbers and records.
use Rattle.std.specs.Prelude.{Result, Ok, Err}
use Rattle.stops.specs.Numbers.{held_number}
use Rattle.plain.specs.declared.Ran.{Ran}
use Rattle.plain.specs.declared.refused.Refusal.{Refusal}
use Rattle.plain.specs.Refused.{number_of}
use Rattle.plain.specs.Running as running

-- a start; a refused one stands for the zeroed machine
abbrev pub started_as : {P : Type 0} → P → Result P Refusal → running.Started P
started_as zeroed (Ok p) = running.started 0 p
started_as zeroed (Err refusal) = running.started (number_of refusal) zeroed

-- an accepted run, of a machine as its definition sees it
abbrev pub ran_to : {P M : Type 0} → (P → M) → Ran P → running.Ran M
ran_to seen r = running.ran (held_number r.stop) r.used (seen r.machine)

-- a run; a refused one has used nothing and changed nothing
abbrev pub ran_as : {P M : Type 0} → (P → M) → P → Result (Ran P) Refusal → running.Ran M
ran_as seen p (Ok r) = ran_to seen r
ran_as seen p (Err refusal) = running.ran (number_of refusal) 0 (seen p)
