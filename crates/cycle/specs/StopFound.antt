-- When a stop is found (paper 01, "Pipeline").
use Rattle.std.specs.Prelude.{ℕ, Bool, true, false}
use Rattle.bits.specs.Choice.{pick}
use Rattle.stops.specs.Stops.{stop_for}
use Rattle.steps.specs.declared.Phase.{Phase}
use Rattle.steps.specs.declared.Phase.TheVariants.{Step1, Refill1, Refill2, Later}
use Rattle.cycle.specs.Machine.{Machine, state_of}

abbrev pub is_step1 : Phase → Bool
is_step1 Step1 = true
is_step1 Refill1 = false
is_step1 Refill2 = false
is_step1 (Later k) = false

-- the stop found where the core stands, or 0: before step 1 and nowhere else; 21 is found where IX is blank
unfoldable pub stop_found : Machine → ℕ
stop_found m =
    pick (is_step1 m.control.phase)
    (stop_for m.control.pipe.ix (state_of m))
    0
