-- Refused calls (paper 01, "Numbers caused by the state"; settle: 02 §2): which number comes first, and that everything is handed back unchanged.
use Rattle.std.specs.Prelude.{ℕ, suc, ◌≡◌, true, false, List, length}
use Rattle.refusals.specs.Numbers as numbers
use Rattle.pipeline.specs.Calls as pipeline
use Rattle.cycle.specs.Machine as pipelined
use Rattle.plain.specs.Machine as unpiped
use Rattle.plain.specs.Numbers as plain_numbers
use Rattle.plain.specs.Run as plain
use Rattle.plain.specs.Running.{Ran}
use Rattle.arrays.specs.Words.{at}
use Rattle.core_arrays.specs.CoreArray as core_array
use Rattle.core_arrays.specs.Places.{core_place, core_length}
use Rattle.plain_arrays.specs.PlainArray as plain_array
use Rattle.plain_arrays.specs.Places.{plain_place, plain_length}
use Rattle.array_calls.specs.Calls.{Called, refused, core_called, core_machine, core_run, core_settle, plain_called, plain_run}

-- a call on a core's array: number is what its core refuses with, or 0, and does what its core then does
pub record Refuses (words mem : List ℕ) (number : ℕ) (does : Ran pipelined.Machine) (call : Called) : Type 0 where
  -- 12 comes first: the lent length differs from the record's, which stands in the array where the header says.
  pub other_length : (length mem ≡ at words (core_place core_length) → ⊥) → call ≡ refused 12 words mem
  -- Then 11: an array that stands for no core.
  pub no_core : length mem ≡ at words (core_place core_length) → core_array.stands_for_core words ≡ false → call ≡ refused 11 words mem
  -- Then what the array's core refuses with.
  pub refuses : (q : ℕ) → core_array.stands_for_core words ≡ true → number ≡ suc q → call ≡ refused (suc q) words mem
  -- A call that none of them refuses is the core's, and no stop is taken for a refusal.
  pub accepts : core_array.stands_for_core words ≡ true → number ≡ 0 → call ≡ core_called does

-- of any array and memory: a run, whatever its budget
abbrev pub RunRefusals : List ℕ → List ℕ → ℕ → Type 0
RunRefusals words mem budget =
    let m = core_machine (core_array.unpacked words) mem in
    Refuses words mem (numbers.refusal (length mem) budget m) (pipeline.run (length mem) budget m) (core_run words mem budget)

-- and settle
abbrev pub SettleRefusals : List ℕ → List ℕ → Type 0
SettleRefusals words mem =
    let m = core_machine (core_array.unpacked words) mem in
    Refuses words mem (pipeline.settle_refusal (length mem) m) (pipeline.settle (length mem) m) (core_settle words mem)

-- of any array and memory, whatever the count
pub record PlainRefusals (words mem : List ℕ) (count : ℕ) : Type 0 where
  -- 12 comes first.
  pub other_length : (length mem ≡ at words (plain_place plain_length) → ⊥) → plain_run words mem count ≡ refused 12 words mem
  -- Then what the array's plain machine refuses with.
  pub refuses : (q : ℕ) → plain_numbers.refusal (plain_array.unpacked words) (length mem) count ≡ suc q → plain_run words mem count ≡ refused (suc q) words mem
  -- A run that none of them refuses is the plain machine's.
  pub accepts : plain_numbers.refusal (plain_array.unpacked words) (length mem) count ≡ 0
      → plain_run words mem count ≡ plain_called (plain.run count (unpiped.machine (plain_array.unpacked words) mem))
