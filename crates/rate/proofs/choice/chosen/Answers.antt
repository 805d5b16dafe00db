-- One that carries, one that does not, and the end. Assumes nothing.
use Rattle.std.proofs.Common.{sym, ◌∙◌, ◌<◌, length, arith}
use Rattle.rate.proofs.Lists.{chosen-step, chosen-end}
use Rattle.rate.proofs.choice.chosen.Goals as goal

pub returns-then-carries : goal.returns-then-carries
returns-then-carries c =
    let h : c.loop-k.k < length c.args.verdicts.now = omega arith in
    sym (chosen-step c.loop-k.k c.args.options.now c.args.verdicts.now _ c.loop-k-test.true h (sym c.if-carries.true ∙ c.carries.ensures)) ∙ c.loop-k.invariant

pub loop-k-preserved : goal.loop-k-preserved
loop-k-preserved c =
    let h : c.loop-k.k < length c.args.verdicts.now = omega arith in
    sym (chosen-step c.loop-k.k c.args.options.now c.args.verdicts.now _ c.loop-k-test.true h (sym c.if-carries.false ∙ c.carries.ensures)) ∙ c.loop-k.invariant

pub returns : goal.returns
returns c = sym (chosen-end c.loop-k.k c.args.options.now c.args.verdicts.now (omega arith)) ∙ c.loop-k.invariant
