-- The numbers with which a start or a run is refused (paper 01, the two lists of numbers); the writer's is its own.
use Rattle.std.specs.Prelude.{ℕ, Option, Result, Ok, Err}
use Rattle.stops.specs.declared.reason.Stop.{Stop}
use Rattle.stops.specs.Numbers.{held_number}
use Rattle.memory.specs.Lengths.{length_refused}
use Rattle.plain.specs.declared.refused.Refusal.{Refusal}
use Rattle.plain.specs.declared.refused.Refusal.TheVariants.{Length, Entry, Budget, Flags, Record, OtherMemory, TooManyCycles}

abbrev pub entry_refused : ℕ
entry_refused = 2

abbrev pub budget_refused : ℕ
budget_refused = 3

abbrev pub flags_refused : ℕ
flags_refused = 4

abbrev pub record_refused : ℕ
record_refused = 11

-- memory of another length is lent
abbrev pub other_memory : ℕ
other_memory = 12

-- of the core alone
abbrev pub too_many_cycles : ℕ
too_many_cycles = 13

abbrev pub number_of : Refusal → ℕ
number_of Length = length_refused
number_of Entry = entry_refused
number_of Budget = budget_refused
number_of Flags = flags_refused
number_of Record = record_refused
number_of OtherMemory = other_memory
number_of TooManyCycles = too_many_cycles

-- what a call is refused with, 0 where it is accepted
abbrev pub refusal_number : Result (Unit {0}) Refusal → ℕ
refusal_number (Ok u) = 0
refusal_number (Err refusal) = number_of refusal

-- what ends a call before its first step: a refusal, else the stop held, 0 where none is
abbrev pub at_once_number : Result (Option Stop) Refusal → ℕ
at_once_number (Ok held) = held_number held
at_once_number (Err refusal) = number_of refusal
