use mathlib.Core.Path.{sym, ap, ◌∙◌}
use Rattle.condition.specs.Condition.{passes}
use Rattle.watch.proofs.Bursts.{none-due, failed-due, passed-due}
use Rattle.watch.proofs.due.tell_due.Goals as goal

pub returns-in_default-clause-tells : goal.returns-in_default-clause-tells
returns-in_default-clause-tells c = none-due _ _ _ _ _ _ _ (sym c.fetch.ensures ∙ c.in_default.is)

pub returns-then-not-passes-clause-tells : goal.returns-then-not-passes-clause-tells
returns-then-not-passes-clause-tells c =
    failed-due _ _ _ _ _ _ _ c.in-Some.word (sym c.fetch.ensures ∙ c.in-Some.is) (ap (λ x. passes x c.args.c.flags) (sym c.field.ensures) ∙ sym c.passes.ensures ∙ c.if-not-passes.true)

pub returns-clause-tells : goal.returns-clause-tells
returns-clause-tells c =
    passed-due _ _ _ _ _ _ _ c.in-Some.word _ _ _ (sym c.fetch.ensures ∙ c.in-Some.is) (ap (λ x. passes x c.args.c.flags) (sym c.field.ensures) ∙ sym c.passes.ensures ∙ c.if-not-passes.false)
    (c.word_burst-b.ensures.value _) c.tell_burst.ensures.tells
