-- The plain machine (the paper's term): one instruction after the other, with no pipeline.
use Rattle.std.specs.Prelude.{ℕ, List}
use Rattle.memory.specs.declared.Board.{Board}
use Rattle.memory.specs.Memory.{memory_of, word_at}
use Rattle.registers.specs.State.{State, state}
use Rattle.semantics.specs.Perform.{Result, performs}
use Rattle.plain.specs.declared.Plain.{Plain}

-- its record with the memory that it is lent
pub record Machine : Type 0 where
  pub plain : Plain
  pub memory : List ℕ

abbrev pub machine : Plain → List ℕ → Machine
machine p mem = record { plain = p; memory = mem }

abbrev pub plain : List ℕ → ℕ → ℕ → ℕ → Board → Plain
plain g a f stop board = record { registers = g; a = a; flags = f; stop = stop; board = board }

-- the state that its next instruction finds
abbrev pub state_of : Machine → State
state_of m = state m.plain.registers m.plain.flags m.plain.a (memory_of m.plain.board m.memory)

-- what came of an instruction
abbrev pub after : Result → Machine
after r = machine (plain r.registers r.performed.next r.performed.flags r.performed.stop r.memory.board) r.memory.bytes

-- the word at A, performed there
unfoldable pub performed_at : Machine → Result
performed_at m = performs (word_at (state_of m).memory m.plain.a) (state_of m)

unfoldable pub step : Machine → Machine
step m = after (performed_at m)
