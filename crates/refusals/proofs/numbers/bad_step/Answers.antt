use mathlib.Core.Path.{sym, ◌∙◌}
use Rattle.stops.specs.Stops.{due}
use Rattle.refusals.proofs.UnderWay.{step-within}
use Rattle.refusals.proofs.numbers.bad_step.Goals as goal

pub returns-in-Some : goal.returns-in-Some
unfolding due
returns-in-Some c mem =
    let passing = rw c.field.ensures at (sym c.passes.ensures ∙ c.if-passes.true) in
    let r = c.args.c in
    step-within {d = due r.pipe.ix r.flags} _ _ (c.bad_word.ensures mem) (rw (c.in-Some.is, passing))

pub returns-in_default : goal.returns-in_default
unfolding due
returns-in_default c mem =
    let failing = rw c.field.ensures at (sym c.passes.ensures ∙ c.if-passes.false) in
    rw (c.in-Some.is, failing)

pub returns-in_default-2 : goal.returns-in_default-2
unfolding due
returns-in_default-2 c mem = rw c.in_default.is
