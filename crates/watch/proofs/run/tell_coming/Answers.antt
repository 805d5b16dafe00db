use Rattle.watch.proofs.Skips.{tells-nothing, tells-coming}
use Rattle.watch.proofs.run.tell_coming.Goals as goal

pub returns-then-e-eq0-clause-tells : goal.returns-then-e-eq0-clause-tells
returns-then-e-eq0-clause-tells c g mem = tells-nothing _ _ _ _ _ (c.coming-e.ensures g mem) c.if-e-eq0.true

pub returns-clause-tells : goal.returns-clause-tells
returns-clause-tells c g mem =
    tells-coming _ _ _ _ _ (c.coming-e.ensures g mem) _ _ _ _ _ c.if-e-eq0.false c.ticks.ensures c.from.ensures c.steps_done.ensures c.tell.ensures.tells
