use mathlib.Core.Path.{refl, sym, ap, ◌∙◌}
use lib.ListN.{take}
use mathlib.Core.List.{◌++◌}
use Rattle.runs.specs.Run.{reach}
use Rattle.link.specs.Window.{handed}
use Rattle.stores.specs.Coming.{stored}
use Rattle.watch.proofs.Telling.{none-told}
use Rattle.watch.proofs.Skips.{skipped-there, skipped-goes, skipped-stores}
use Rattle.watch.proofs.run.tell_skip.Goals as goal

pub returns-then-may_skip-clause-reaches : goal.returns-then-may_skip-clause-reaches
returns-then-may_skip-clause-reaches c =
    skipped-there c.args.budget _ (sym c.may_skip.ensures ∙ c.if-may_skip.true) _ _ _ _ (rw c.behind.ensures at c.tell_wholes-to.ensures.through) _ _ c.counts_on-counts.ensures (c.control_at-control.ensures _ 0)

pub returns-then-may_skip-clause-goes : goal.returns-then-may_skip-clause-goes
returns-then-may_skip-clause-goes c =
    skipped-goes c.args.budget _ (sym c.may_skip.ensures ∙ c.if-may_skip.true) _ _ _ _ (rw c.behind.ensures at c.tell_wholes-to.ensures.through) _ _ c.counts_on-counts.ensures (c.control_at-control.ensures _ 0)
    c.tell_wholes-to.ensures.within

pub returns-then-may_skip-clause-tells : goal.returns-then-may_skip-clause-tells
returns-then-may_skip-clause-tells c =
    rw c.behind.ensures at c.tell_wholes-to.ensures.tells c.args.c.counts.sums c.ticks.ensures
    ∙ ap (λ es. take c.args.told c.args.found.now ++ handed c.args.w es)
    (skipped-stores c.args.budget _ (sym c.may_skip.ensures ∙ c.if-may_skip.true) _ _ _ _ (rw c.behind.ensures at c.tell_wholes-to.ensures.through))

pub returns-clause-reaches : goal.returns-clause-reaches
returns-clause-reaches c = unfold reach in refl

pub returns-clause-tells : goal.returns-clause-tells
returns-clause-tells c = unfold stored handed in none-told _ _
