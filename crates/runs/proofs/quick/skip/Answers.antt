use mathlib.Core.Path.{ap, ◌∙◌}
use native.Mathlib.Omega.{arith}
use Rattle.runs.specs.Boundary.{boundary}
use Rattle.runs.proofs.QuickRoad.{came-within, tally-within, skip-whole, skip-none}
use Rattle.runs.proofs.quick.skip.Goals as goal

pub wholes-came-requires : goal.wholes-came-requires
wholes-came-requires c = (c.default-w.ensures.0, c.default-w.ensures.1, omega (arith, c.requires.2))

pub counts_on-counts-requires : goal.counts_on-counts-requires
counts_on-counts-requires c =
    let w = came-within _ c.wholes-came.ensures in
    let t = tally-within _ _ _ c.wholes-came.ensures in
    (omega (arith, w.1, c.requires.0), omega (arith, w.0, c.requires.0, c.requires.1), omega (arith, w.1, c.requires.2), omega (arith, w.1, c.requires.2), omega (arith, w.1, c.requires.2), t.0, t.1)

pub returns-then-may_skip : goal.returns-then-may_skip
returns-then-may_skip c =
    skip-whole _ _ c.may_skip.ensures c.if-may_skip.true (rw c.behind.ensures at c.wholes-came.ensures)
    (c.control_at-control.ensures _ _ ∙ ap (boundary _) c.counts_on-counts.ensures)

pub returns : goal.returns
returns c = skip-none _ _ c.may_skip.ensures c.if-may_skip.false
