use Rattle.std.proofs.Common.{◌≡◌, ℕ, ◌+◌, ◌^◌, ◌<◌, arith}
use Rattle.multiply.specs.InternalCycles.{m_of}
use Rattle.multiply.proofs.InternalCycles.{m-bounds}
use Rattle.semantics.proofs.own_steps.multiply_steps.Goals as goal

room : (v m : ℕ) → m ≡ m_of v → m + 1 < 2 ^ 32
room v m e = omega (arith, m-bounds v)

pub overflow_add-result : goal.overflow_add-result
overflow_add-result c = record { fits = room _ _ c.m_of.ensures }
