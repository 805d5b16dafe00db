-- The marked values of stops (paper 01, "Marked values, proved together"): STR R0, [R1] at 20 with a value in R1.
use Rattle.std.specs.Prelude.{ℕ, ◌≡◌, [], ◌∷◌, replicate, Some}
use Rattle.memory.specs.Memory.{memory_of}
use Rattle.registers.specs.State.{state}
use Rattle.stops.specs.Stops.{stop_for}

abbrev pub stop_at : ℕ → ℕ → ℕ
stop_at r1 f = stop_for (Some 0xE5810000) (state (0 ∷ r1 ∷ replicate 13 0) f 0x20 (memory_of (record { size = 0x110 }) []))

-- Stores to 24 and 28 stop, to 20 and 2C don't, at any flags
pub record Marked : Type 0 where
  pub store_24 : (f : ℕ) → stop_at 0x24 f ≡ 25
  pub store_28 : (f : ℕ) → stop_at 0x28 f ≡ 25
  pub store_20 : (f : ℕ) → stop_at 0x20 f ≡ 0
  pub store_2C : (f : ℕ) → stop_at 0x2C f ≡ 0
