use Rattle.std.proofs.Common.{refl}
use Rattle.stops.proofs.Numbers.{some_number}
use Rattle.semantics.proofs.Stops.{handed_on}
use Rattle.semantics.proofs.Results.{executed-stop, executed-done, multiply-done}
use Rattle.semantics.proofs.perform.perform_multiply.Goals as goal

pub returns-in_err-multiply_stop : goal.returns-in_err-multiply_stop
returns-in_err-multiply_stop c mem = executed-stop _ _ (c.in_err-multiply_stop.ensures _) (some_number _) (handed_on _ _ _ _ c.from_residual.ensures.1)

pub returns : goal.returns
returns c mem =
    executed-done _ _ (c.in_ok-multiply_stop.ensures _) refl
    (multiply-done _ _ c.multiply_steps-steps.ensures c.went_on.ensures c.multiply.ensures)
