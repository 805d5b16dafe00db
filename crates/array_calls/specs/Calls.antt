-- What each call of the library answers and leaves: the calls of the crates below, on arrays.
use Rattle.std.specs.Prelude.{ℕ, Bool, not, ◌&&◌, List, eqb, leb, length}
use Rattle.bits.specs.Choice.{pick}
use Rattle.writer.specs.Writer.{Answer, no_word_for, write_of}
use Rattle.pipeline.specs.declared.Core.{Core}
use Rattle.cycle.specs.Machine as pipelined
use Rattle.pipeline.specs.Calls as pipeline
use Rattle.plain.specs.Refused.{record_refused, other_memory}
use Rattle.plain.specs.Machine as unpiped
use Rattle.plain.specs.Running.{Ran}
use Rattle.plain.specs.Running as running
use Rattle.plain.specs.Run as plain
use Rattle.core_arrays.specs.CoreArray as core_array
use Rattle.plain_arrays.specs.PlainArray as plain_array
use Rattle.record_arrays.specs.RecordArray.{record_of, stands_for_record}

-- a start: the number it answers, and the array it leaves
pub record Started : Type 0 where
  pub answer : ℕ
  pub words : List ℕ

abbrev pub started : ℕ → List ℕ → Started
started answer words = record { answer = answer; words = words }

-- what a start of either machine answers, and the array of the machine that it hands back
abbrev pub begun_in : {P : Type 0} → (P → List ℕ) → running.Started P → Started
begun_in packed b = started b.answer (packed b.machine)

-- a run or settle: the number it answers, the cycles or instructions it counted, and the array and memory it leaves
pub record Called : Type 0 where
  pub answer : ℕ
  pub used : ℕ
  pub words : List ℕ
  pub memory : List ℕ

abbrev pub called : ℕ → ℕ → List ℕ → List ℕ → Called
called answer used words mem = record { answer = answer; used = used; words = words; memory = mem }

-- refusals are the numbers from 1 to 20; 0 is a budget spent, and stops are 21 to 25
abbrev pub is_refusal : ℕ → Bool
is_refusal answer = leb 1 answer && leb answer 20

-- a refused call: the array and the memory that it was lent, with 0 counted
abbrev pub refused : ℕ → List ℕ → List ℕ → Called
refused answer words mem = called answer 0 words mem

-- a call on this array and memory, which are handed back where it is refused
abbrev pub unless_refused : List ℕ → List ℕ → Called → Called
unless_refused words mem r = pick (is_refusal r.answer) (refused r.answer words mem) r

-- registers, flags, entry, memory
unfoldable pub core_start : List ℕ → ℕ → ℕ → List ℕ → Started
core_start g flags entry mem = begun_in core_array.packed (pipeline.start g flags entry mem)

abbrev pub core_called : Ran pipelined.Machine → Called
core_called r =
    called r.answer r.used (core_array.packed (pipeline.core r.machine.registers r.machine.control)) r.machine.memory

abbrev pub core_machine : Core → List ℕ → pipelined.Machine
core_machine c mem = pipelined.machine c.registers c.control mem

abbrev pub other_length : ℕ → ℕ → Bool
other_length lent length = not (eqb lent length)

-- 12 where the lent length differs, 11 where the array stands for no core
abbrev pub array_refusal : Bool → Bool → ℕ
array_refusal differs stands = pick differs other_memory (pick (not stands) record_refused 0)

-- what a core's array refuses with before its core is called, or 0
abbrev pub refusal_of : List ℕ → ℕ → ℕ
refusal_of words lent = array_refusal (other_length lent (core_array.length_in words)) (core_array.stands_for_core words)

-- a call of the core, on an array: refused for the array, or what the array's core answers and leaves
abbrev pub on_core : (pipelined.Machine → Ran pipelined.Machine) → List ℕ → List ℕ → Called
on_core call words mem =
    pick (eqb (refusal_of words (length mem)) 0)
    (unless_refused words mem (core_called (call (core_machine (core_array.unpacked words) mem))))
    (refused (refusal_of words (length mem)) words mem)

-- array, memory, budget
unfoldable pub core_run : List ℕ → List ℕ → ℕ → Called
core_run words mem budget = on_core (pipeline.run (length mem) budget) words mem

-- array, memory
unfoldable pub core_settle : List ℕ → List ℕ → Called
core_settle words mem = on_core (pipeline.settle (length mem)) words mem

unfoldable pub plain_start : List ℕ → ℕ → ℕ → List ℕ → Started
plain_start g flags entry mem = begun_in plain_array.packed (plain.start g flags entry mem)

abbrev pub plain_called : Ran unpiped.Machine → Called
plain_called r = called r.answer r.used (plain_array.packed r.machine.plain) r.machine.memory

-- array, memory, count; every array stands for a plain machine, whose run tests 12 and then 11 itself
unfoldable pub plain_run : List ℕ → List ℕ → ℕ → Called
plain_run words mem count = unless_refused words mem (plain_called (plain.run count (unpiped.machine (plain_array.unpacked words) mem)))

abbrev pub answer : ℕ → ℕ → Answer
answer number word = record { number = number; word = word }

-- an array that stands for no record is refused like any other record that has no word
unfoldable pub word_of : List ℕ → Answer
word_of words = pick (stands_for_record words) (write_of (record_of words)) (answer no_word_for 0)
