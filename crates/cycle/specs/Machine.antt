-- The core with the memory that it is lent.
use Rattle.std.specs.Prelude.{ℕ, ◌^◌, List, Option}
use Rattle.datapath.specs.Counter.{behind}
use Rattle.memory.specs.Memory.{Memory, memory_of}
use Rattle.registers.specs.State.{State, state}
use Rattle.semantics.specs.declared.Sums.{Sums}
use Rattle.cycle.specs.declared.Pipe.{Pipe}
use Rattle.cycle.specs.declared.Counts.{Counts}
use Rattle.cycle.specs.declared.Control.{Control}

pub record Machine : Type 0 where
  pub registers : List ℕ
  pub control : Control
  pub memory : List ℕ

abbrev pub machine : List ℕ → Control → List ℕ → Machine
machine g c mem = record { registers = g; control = c; memory = mem }

-- the memory as its board answers
abbrev pub lent : Machine → Memory
lent m = memory_of m.control.board m.memory

-- the state that the instruction in IX finds, before step 1: A is PC-8
abbrev pub state_of : Machine → State
state_of m = state m.registers m.control.flags (behind m.control.pipe.pc 8) (lent m)

abbrev pub pipe : ℕ → Option ℕ → Option ℕ → Option ℕ → Pipe
pipe pc ir1 ir2 ix = record { pc = pc; ir1 = ir1; ir2 = ir2; ix = ix }

abbrev pub counts : ℕ → ℕ → Sums → Counts
counts cycles retired sums = record { cycles = cycles; retired = retired; sums = sums }

-- the largest count of cycles
abbrev pub most_cycles : ℕ
most_cycles = 2 ^ 40
