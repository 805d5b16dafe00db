-- A stop changes only the stop (paper 01, "Plain machine").
use Rattle.std.specs.Prelude.{◌≡◌, ◌≢◌, Option, ℕ}
use Rattle.registers.specs.State.{State}
use Rattle.stops.specs.Stops.{stop_for}
use Rattle.semantics.specs.Perform.{Result, performs}

-- registers, flags, the address and memory are as they were, and no cycle is counted
pub record Unchanged (r : Result) (s : State) : Type 0 where
  pub registers : r.registers ≡ s.registers
  pub flags : r.performed.flags ≡ s.status
  pub address : r.performed.next ≡ s.a
  pub memory : r.memory ≡ s.memory
  pub cycles : r.performed.cycles ≡ 0

-- what was fetched, in a state
pub record Stopped (x : Option ℕ) (s : State) : Type 0 where
  pub stop : (performs x s).performed.stop ≡ stop_for x s
  pub unchanged : stop_for x s ≢ 0 → Unchanged (performs x s) s
