use Rattle.std.proofs.Common.{refl, ◌∙◌, arith}
use Rattle.plain.specs.Machine.{machine}
use Rattle.plain.specs.Run.{run}
use Rattle.stops.proofs.Numbers.{some_number}
use Rattle.plain.proofs.Accepted.{budgeted, standing, no-stop-zero}
use Rattle.plain.proofs.Running.{ends_by, goes_by}
use Rattle.plain.proofs.WholeSteps.{run-told}
use Rattle.plain.proofs.Told as told
use Rattle.plain.proofs.Plain.run.Goals as goal

pub returns-in_err-refusal : goal.returns-in_err-refusal
unfolding run
returns-in_err-refusal c = told.refused_run _ _ _ _ c.from_residual.ensures.1 ∙ ends_by _ _ c.in_err-refusal.ensures (told.some_number _)

pub returns-in-Ok : goal.returns-in-Ok
unfolding run
returns-in-Ok c = ends_by _ _ c.in-Ok.ensures.1 (some_number _) ∙ goes_by _ _ c.in_ok-refusal.ensures refl

pub overflow_mul-count : goal.overflow_mul-count
overflow_mul-count c = record { fits = omega (arith, budgeted _ _ _ c.in_ok-refusal.ensures refl) }

pub wholes-came-requires : goal.wholes-came-requires
wholes-came-requires c = (c.default-w.ensures.0, c.default-w.ensures.1, omega (arith, budgeted _ _ _ c.in_ok-refusal.ensures refl))

pub returns : goal.returns
unfolding run
returns c =
    let m = machine c.args.self c.args.memory.now in
    let none = no-stop-zero c.args.self.stop (standing _ _ _ c.in_ok-refusal.ensures) c.in_default.ensures.0 in
    rw c.number.ensures
    (run-told _ m none c.wholes-came.ensures
    ∙ goes_by m _ refl none
    ∙ goes_by m _ c.in_ok-refusal.ensures refl)
