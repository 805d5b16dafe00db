-- The state that an instruction finds: the registers, the status, its own address, and memory.
use Rattle.std.specs.Prelude.{ℕ, List}
use Rattle.memory.specs.Memory.{Memory, memory_of}
use Rattle.registers.specs.declared.Context.{Context}

pub record State : Type 0 where
  pub registers : List ℕ
  -- the flags, 8N+4Z+2C+V
  pub status : ℕ
  pub a : ℕ
  pub memory : Memory

abbrev pub state : List ℕ → ℕ → ℕ → Memory → State
state g f a mem = record { registers = g; status = f; a = a; memory = mem }

-- the same in the parts that a call is given
abbrev pub state_in : Context → List ℕ → List ℕ → State
state_in c g bytes = state g c.flags c.a (memory_of c.board bytes)
