-- A phase as a number: steps 2 and later are 3 and up.
use Rattle.std.specs.Prelude.{ℕ, ◌+◌, ◌-◌, ◌%◌, ◌^◌, ◌==◌}
use Rattle.bits.specs.Choice.{pick}
use Rattle.steps.specs.declared.Phase.{Phase}
use Rattle.steps.specs.declared.Phase.TheVariants.{Step1, Refill1, Refill2, Later}

abbrev pub phase_number : Phase → ℕ
phase_number Step1 = 0
phase_number Refill1 = 1
phase_number Refill2 = 2
phase_number (Later k) = (k + 3) % 2 ^ 32

abbrev pub phase_of : ℕ → Phase
phase_of n = pick (n == 0) Step1 (pick (n == 1) Refill1 (pick (n == 2) Refill2 (Later (n - 3))))
