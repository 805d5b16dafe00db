-- The stores of the plain machine: each instruction's own, one instruction after the other.
use Rattle.std.specs.Prelude.{ℕ, zero, suc, ◌+◌, ◌≡◌, ◌≢◌, List, [], ◌∷◌, ◌++◌, eqb}
use Rattle.bits.specs.Choice.{pick}
use Rattle.word.specs.declared.Instruction.{Instruction}
use Rattle.memory.specs.Memory.{word_at}
use Rattle.registers.specs.State.{State}
use Rattle.stops.specs.Stops.{Due, no_word_there, skipped, executes, due}
use Rattle.semantics.specs.declared.Sums.{Sums}
use Rattle.semantics.specs.Sums.{plus, ticks, sums_of, start_sums}
use Rattle.semantics.specs.Duration.{own_steps}
use Rattle.plain.specs.Machine.{Machine, state_of}
use Rattle.plain.specs.Trace.{trace, stop_met, durations, added}
use Rattle.link.specs.declared.Store.{Store}
use Rattle.stores.specs.Writes.{left, writes}

-- nothing where the condition fails
abbrev pub writes_due : Due → State → ℕ → ℕ → List Store
writes_due no_word_there s cycles ticks = []
writes_due skipped s cycles ticks = []
writes_due (executes i) s cycles ticks = writes i s cycles ticks

-- nothing where it stops
unfoldable pub writes_at : Machine → ℕ → ℕ → List Store
writes_at m cycles ticks =
    pick (eqb (stop_met m) 0) (writes_due (due (word_at (state_of m).memory m.plain.a) m.plain.flags) (state_of m) cycles ticks) []

-- those of the first k instructions, the first of which begins after so many cycles, with these sums
unfoldable pub stores_of : ℕ → Sums → Machine → ℕ → List Store
stores_of cycles q m zero = []
stores_of cycles q m (suc k) =
    stores_of cycles q m k ++ writes_at (trace m k) (cycles + durations m k) (ticks (plus q (added m k)))

-- from a start: its 2 cycles, S and N, come first
abbrev pub planned : Machine → ℕ → List Store
planned m k = stores_of 2 start_sums m k

-- the last of some stores; of none the one given
unfoldable pub last_store : Store → List Store → Store
last_store e [] = e
last_store d (e ∷ es) = last_store e es

-- request 3's table, and the table of own steps: where an instruction stores, its last store is in its last cycle, and in the last of its ticks
pub record LastStores : Type 0 where
  pub cycle : (i : Instruction) (s : State) (cycles ticked : ℕ) (d : Store) → left i 0 ≢ 0 → (last_store d (writes i s cycles ticked)).cycle ≡ cycles + own_steps i s.registers
  pub tick : (i : Instruction) (s : State) (cycles ticked m : ℕ) (d : Store) → left i 0 ≢ 0 → (last_store d (writes i s cycles ticked)).tick ≡ ticked + ticks (sums_of i m)
