-- What a run of either machine answers and leaves, by how the machine is packed.
use Rattle.std.specs.Prelude.{ℕ, List, Result, Ok, Err}
use Rattle.stops.specs.Numbers.{held_number}
use Rattle.plain.specs.declared.Ran.{Ran}
use Rattle.plain.specs.declared.refused.Refusal.{Refusal}
use Rattle.plain.specs.Refused.{number_of}
use Rattle.array_calls.specs.Calls.{Called, called, refused}

-- a run on these words, and the memory that it left
abbrev pub ended_in : {P : Type 0} → (P → List ℕ) → List ℕ → List ℕ → Result (Ran P) Refusal → Called
ended_in packed words mem (Ok r) = called (held_number r.stop) r.used (packed r.machine) mem
ended_in packed words mem (Err refusal) = refused (number_of refusal) words mem
