-- An option that is not next, one that is, and the end. Assumes nothing.
use Rattle.std.proofs.Common.{sym, ◌∙◌, arith}
use Rattle.rate.proofs.Lists.{rises-step, rises-end}
use Rattle.rate.proofs.limits.rises.Goals as goal

pub returns-then-not-next : goal.returns-then-not-next
returns-then-not-next c =
    sym (rises-step c.loop-option.last c.loop-option.option-index c.args.options.now c.loop-option-test.true (sym c.if-not-next.true ∙ c.next.ensures)) ∙ c.loop-option.invariant

pub loop-option-preserved : goal.loop-option-preserved
loop-option-preserved c =
    sym (rises-step c.loop-option.last c.loop-option.option-index c.args.options.now c.loop-option-test.true (sym c.if-not-next.false ∙ c.next.ensures)) ∙ c.loop-option.invariant

pub returns : goal.returns
returns c = sym (rises-end c.loop-option.last c.loop-option.option-index c.args.options.now (omega arith)) ∙ c.loop-option.invariant
