use Rattle.std.proofs.Common.{sym, ◌∙◌}
use Rattle.registers.specs.Registers.{out}
use Rattle.transfer.proofs.Moves.{continued-start, continued-step}
use Rattle.transfer.proofs.block.load.Goals as goal

pub loop-n-init : goal.loop-n-init
loop-n-init c = rw c.into_iter-n-iterator.ensures.into_iter_gives (continued-start _ _ _ _ _)

pub loop-n-preserved : goal.loop-n-preserved
loop-n-preserved c =
    rw (c.arrive-outcome.ensures, c.read_word.ensures, c.next-at.ensures)
    (sym (continued-step _ _ (out _ c.loop-n.outcome.flags c.loop-n.outcome.goes) _ _ _) ∙ rw c.in-Some.ensures.steps at c.loop-n.invariant)
