use Rattle.std.proofs.Common.{refl, ◌∙◌}
use Rattle.registers.specs.State.{state_in}
use Rattle.stops.proofs.Numbers.{some_number}
use Rattle.stops.proofs.Joins.{single-stop}
use Rattle.semantics.proofs.Stops.{handed_on}
use Rattle.semantics.proofs.Results.{executed-stop, executed-done, single-load, single-store}
use Rattle.semantics.proofs.Tallies.{stop-raises, done-raises, load-raises, store-raises}
use Rattle.semantics.proofs.perform.perform_single.Goals as goal

pub returns-in_err-single_stop_at : goal.returns-in_err-single_stop_at
returns-in_err-single_stop_at c =
    let e = single-stop _ _ (rw (c.r15.ensures.0, c.r15.ensures.1) at c.reach-at.ensures.1) c.in_err-single_stop_at.ensures in
    record { told = executed-stop _ _ e (some_number _) (handed_on _ _ _ _ c.from_residual.ensures.1); tally = stop-raises _ _ _ e (some_number _) }

pub returns-then-i : goal.returns-then-i
returns-then-i c =
    let e = single-stop _ _ (rw (c.r15.ensures.0, c.r15.ensures.1) at c.reach-at.ensures.1) c.in_ok-single_stop_at.ensures in
    record {
      told = executed-done _ _ e refl (c.load.ensures.told ∙ single-load _ _ c.if-i.true);
      tally = done-raises _ _ _ e refl (load-raises _ _ _ c.if-i.true c.load.ensures.tally);
    }

pub returns-else-i : goal.returns-else-i
returns-else-i c =
    let e = single-stop _ _ (rw (c.r15.ensures.0, c.r15.ensures.1) at c.reach-at.ensures.1) c.in_ok-single_stop_at.ensures in
    record {
      told = executed-done _ _ e refl (c.store.ensures.told ∙ single-store _ _ c.if-i.false);
      tally = done-raises _ _ _ e refl (store-raises _ _ (state_in c.args.c c.args.registers.now c.args.memory.now) c.if-i.false c.store.ensures.tally);
    }
