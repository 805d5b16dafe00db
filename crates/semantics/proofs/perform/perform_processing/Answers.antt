use Rattle.std.proofs.Common.{refl}
use Rattle.registers.specs.State.{state}
use Rattle.stops.proofs.Numbers.{some_number}
use Rattle.semantics.proofs.Stops.{handed_on}
use Rattle.semantics.proofs.Results.{executed-stop, executed-done, processing-done}
use Rattle.semantics.proofs.Tallies.{stop-raises, done-raises, processing-raises}
use Rattle.semantics.proofs.perform.perform_processing.Goals as goal

pub returns-in_err-processing_stop : goal.returns-in_err-processing_stop
returns-in_err-processing_stop c = record {
  told = λ mem. executed-stop _ _ (c.in_err-processing_stop.ensures _) (some_number _) (handed_on _ _ _ _ c.from_residual.ensures.1);
  tally = λ mem. stop-raises _ _ _ (c.in_err-processing_stop.ensures _) (some_number _);
}

pub returns : goal.returns
returns c = record {
  told = λ mem. executed-done _ _ (c.in_ok-processing_stop.ensures _) refl
      (processing-done _ _ c.processing_steps-steps.ensures c.operand_at-t.ensures.1 c.done.ensures.told (rw c.operand_at-t.ensures.0 at c.process_taken-left.ensures));
  tally = λ mem. done-raises _ _ _ (c.in_ok-processing_stop.ensures _) refl
      (processing-raises _ _ (state c.args.registers.now c.args.c.flags c.args.c.a mem) _ c.done.ensures.tally (rw c.operand_at-t.ensures.0 at c.process_taken-left.ensures));
}
