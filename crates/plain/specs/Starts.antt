-- What a start of either machine answers, said by the conditions of the paper ("Numbers caused by the input") and not by tests: a second road
-- to `start_answer`. The cases exclude each other, so that a start that refuses too much is none of them.
use Rattle.std.specs.Prelude.{ℕ, ◌%◌, ◌≤◌, ◌<◌, ◌≡◌}
use Rattle.memory.specs.Lengths.{GoodLength}
use Rattle.plain.specs.Numbers.{start_answer}

-- 2 does not apply: a multiple of 4 below the length
pub record GoodEntry (entry n : ℕ) : Type 0 where
  pub aligned : entry % 4 ≡ 0
  pub inside : entry < n

-- a memory of n bytes, an entry and flags are answered with this
pub data Answered (n entry flags : ℕ) : ℕ → Type 0 where
  length_bad : (GoodLength n → ⊥) → Answered n entry flags 1
  entry_bad : GoodLength n → (GoodEntry entry n → ⊥) → Answered n entry flags 2
  flags_bad : GoodLength n → GoodEntry entry n → 15 < flags → Answered n entry flags 4
  accepted : GoodLength n → GoodEntry entry n → flags ≤ 15 → Answered n entry flags 0

abbrev pub Starts : Type 0
Starts = (n entry flags : ℕ) → Answered n entry flags (start_answer n entry flags)
