use Rattle.std.proofs.Common.{refl, sym, ◌∙◌}
use Rattle.registers.specs.State.{state_in}
use Rattle.stops.proofs.Numbers.{some_number}
use Rattle.semantics.proofs.Stops.{handed_on}
use Rattle.semantics.proofs.Results.{executed-stop, executed-done, block-load, block-store}
use Rattle.semantics.proofs.Tallies.{stop-raises, done-raises, block-load-raises, block-store-raises}
use Rattle.semantics.proofs.perform.perform_block.Goals as goal

pub returns-in_err-block_stop : goal.returns-in_err-block_stop
returns-in_err-block_stop c = record {
  told = executed-stop _ _ (c.in_err-block_stop.ensures _) (some_number _) (handed_on _ _ _ _ c.from_residual.ensures.1);
  tally = stop-raises _ _ _ (c.in_err-block_stop.ensures _) (some_number _);
}

pub returns-then-i : goal.returns-then-i
returns-then-i c = record {
  told = executed-done _ _ (c.in_ok-block_stop.ensures _) refl (c.load_block.ensures.told ∙ block-load _ _ c.if-i.true);
  tally = done-raises _ _ _ (c.in_ok-block_stop.ensures _) refl (block-load-raises _ _ _ c.if-i.true c.load_block.ensures.tally);
}

pub returns-else-i : goal.returns-else-i
returns-else-i c = record {
  told = executed-done _ _ (c.in_ok-block_stop.ensures _) refl (c.store_block.ensures.told ∙ block-store _ _ c.if-i.false);
  tally = done-raises _ _ _ (c.in_ok-block_stop.ensures _) refl (block-store-raises _ _ (state_in c.args.c c.args.registers.now c.args.memory.now) c.if-i.false c.store_block.ensures.tally (sym (c.in_ok-block_stop.ensures _)));
}
