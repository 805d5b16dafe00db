-- What settle comes to on every record, also on one that no start leads to: a run, and a boundary where the record is not bad.
use Rattle.std.specs.Prelude.{ℕ, ◌<◌, ◌≡◌, false, ◌≢◌}
use Rattle.steps.specs.declared.Phase.TheVariants.{Step1}
use Rattle.cycle.specs.Machine.{Machine}
use Rattle.refusals.specs.Numbers.{bad}
use Rattle.runs.specs.Run.{reach}
use Rattle.runs.specs.CyclesLeft.{cycles_left}
use Rattle.pipeline.specs.Calls.{run, settle}

pub record Settles : Type 0 where
  -- the cycles left end on a boundary, and no fewer do
  pub boundary : (m : Machine) → bad m ≡ false → (reach m (cycles_left m)).control.phase ≡ Step1
  pub first : (m : Machine) → bad m ≡ false → (j : ℕ) → j < cycles_left m → (reach m j).control.phase ≢ Step1
  -- settle is the run whose budget they are: that one is refused alike and finds no stop
  pub budget : (lent : ℕ) (m : Machine) → settle lent m ≡ run lent (cycles_left m) m
