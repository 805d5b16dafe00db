-- The numbers of the stops (paper 01, "Numbers caused by the state").
use Rattle.std.specs.Prelude.{ℕ, Option, Some, None, Result, Ok, Err}
use Rattle.stops.specs.declared.reason.Stop.{Stop}
use Rattle.stops.specs.declared.reason.Stop.TheVariants.{NoWord, OtherWord, BrokenRule, OutsideMemory, FetchedWord}
use Rattle.stops.specs.declared.rules.Rule.{Rule}
use Rattle.stops.specs.declared.rules.Rule.TheVariants.{ShiftBy15, TestWithoutS, WritesBase15, Offset15, Byte15, BlockBase15, BlockWithS, BlockOfNone, MultiplyRdIsRm, MultiplyOf15}

-- no word at A
abbrev pub no_word : ℕ
no_word = 21

-- an Other
abbrev pub other_word : ℕ
other_word = 22

-- a rule is broken
abbrev pub broken_rule : ℕ
broken_rule = 23

-- a moved address at which nothing answers
abbrev pub outside_memory : ℕ
outside_memory = 24

-- a store into a word that is fetched already
abbrev pub fetched_word : ℕ
fetched_word = 25

abbrev pub number_of : Stop → ℕ
number_of NoWord = no_word
number_of OtherWord = other_word
number_of BrokenRule = broken_rule
number_of OutsideMemory = outside_memory
number_of FetchedWord = fetched_word

-- 0 where there is none
abbrev pub held_number : Option Stop → ℕ
held_number (Some stop) = number_of stop
held_number None = 0

-- the stop that is met, 0 where none is
abbrev pub stop_number : Result (Unit {0}) Stop → ℕ
stop_number (Ok u) = 0
stop_number (Err stop) = number_of stop

-- the rules of 23 by their numbers
abbrev pub number_of_rule : Rule → ℕ
number_of_rule ShiftBy15 = 1
number_of_rule TestWithoutS = 2
number_of_rule WritesBase15 = 3
number_of_rule Offset15 = 4
number_of_rule Byte15 = 5
number_of_rule BlockBase15 = 6
number_of_rule BlockWithS = 7
number_of_rule BlockOfNone = 8
number_of_rule MultiplyRdIsRm = 9
number_of_rule MultiplyOf15 = 10

-- the rule that is broken, 0 where none is
abbrev pub rule_number : Result (Unit {0}) Rule → ℕ
rule_number (Ok u) = 0
rule_number (Err rule) = number_of_rule rule
