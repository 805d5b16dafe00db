-- Away from step 1 no stop is found; what the test of step 1 says.
-- Assumes nothing.
use mathlib.Core.Path.{◌≡◌, refl}
use mathlib.Core.Bool.{true, false}
use Rattle.steps.specs.declared.Phase.{Phase}
use Rattle.steps.specs.declared.Phase.TheVariants.{Step1, Refill1, Refill2, Later}
use Rattle.cycle.specs.Machine.{Machine}
use Rattle.cycle.specs.StopFound.{is_step1, stop_found}

pub no_stop : (m : Machine) → is_step1 m.control.phase ≡ false → stop_found m ≡ 0
unfolding stop_found
no_stop m e = rw e

pub is-step1 : (ph : Phase) → is_step1 ph ≡ true → ph ≡ Step1
is-step1 Step1 e = refl
is-step1 Refill1 e = cc
is-step1 Refill2 e = cc
is-step1 (Later k) e = cc
