use mathlib.Core.Path.{refl, sym, ◌∙◌}
use native.Mathlib.Omega.{arith}
use Rattle.stops.proofs.Numbers.{some_number}
use Rattle.plain.proofs.Running as running
use Rattle.runs.specs.Run.{engine}
use Rattle.watch.proofs.Watching.{watching-start, watching-on, watching-step, few-told, counts-now}
use Rattle.watch.proofs.run.watch_from.Goals as goal

pub loop-used-init : goal.loop-used-init
loop-used-init c = (watching-start _ _ _ _, omega arith, refl, refl)

pub tell_skip-far-requires : goal.tell_skip-far-requires
tell_skip-far-requires c =
    let l = c.loop-used.invariant.0 in
    let n = counts-now l in
    (omega (arith, n.0, c.requires.0, c.loop-used.invariant.1), omega (arith, n.0, n.1, c.requires.1), omega (arith, n.2, c.requires.2, c.requires.0, c.loop-used.invariant.1), l.few)

pub tell_coming-told-requires : goal.tell_coming-told-requires
tell_coming-told-requires c =
    let l = watching-on c.loop-used.invariant.0 c.loop-used.invariant.1 c.tell_skip-far.ensures.reaches c.tell_skip-far.ensures.goes c.tell_skip-far.ensures.within c.tell_skip-far.ensures.tells c.tell_skip-far.ensures.upper_bound in
    let n = counts-now l in
    (omega (arith, few-told l, c.if-used-budget.true, c.requires.3, c.tell_skip-far.ensures.length, c.loop-used.invariant.3), omega (arith, n.0, c.requires.0, c.if-used-budget.true), omega (arith, n.2, c.requires.2, c.if-used-budget.true))

pub cycle-at-requires : goal.cycle-at-requires
cycle-at-requires c =
    let n = counts-now (watching-on c.loop-used.invariant.0 c.loop-used.invariant.1 c.tell_skip-far.ensures.reaches c.tell_skip-far.ensures.goes c.tell_skip-far.ensures.within c.tell_skip-far.ensures.tells c.tell_skip-far.ensures.upper_bound) in
    (omega (arith, n.0, c.requires.0, c.if-used-budget.true), omega (arith, n.1, c.requires.0, c.requires.1, c.if-used-budget.true), (omega (arith, n.2, c.requires.2, c.if-used-budget.true), omega (arith, n.2, c.requires.2, c.if-used-budget.true), omega (arith, n.2, c.requires.2, c.if-used-budget.true)))

pub returns-in-Err-clause-run : goal.returns-in-Err-clause-run
returns-in-Err-clause-run c =
    running.left-stop engine (watching-on c.loop-used.invariant.0 c.loop-used.invariant.1 c.tell_skip-far.ensures.reaches c.tell_skip-far.ensures.goes c.tell_skip-far.ensures.within c.tell_skip-far.ensures.tells c.tell_skip-far.ensures.upper_bound).left c.if-used-budget.true (rw c.into.ensures) (sym (c.in-Err.ensures _)) (some_number _)

pub returns-in-Err-clause-stores : goal.returns-in-Err-clause-stores
returns-in-Err-clause-stores c = (watching-on c.loop-used.invariant.0 c.loop-used.invariant.1 c.tell_skip-far.ensures.reaches c.tell_skip-far.ensures.goes c.tell_skip-far.ensures.within c.tell_skip-far.ensures.tells c.tell_skip-far.ensures.upper_bound).told

pub loop-used-preserved-then-used-budget : goal.loop-used-preserved-then-used-budget
loop-used-preserved-then-used-budget c =
    let l = watching-on c.loop-used.invariant.0 c.loop-used.invariant.1 c.tell_skip-far.ensures.reaches c.tell_skip-far.ensures.goes c.tell_skip-far.ensures.within c.tell_skip-far.ensures.tells c.tell_skip-far.ensures.upper_bound in (
      watching-step l c.if-used-budget.true c.cycle-at.ensures (sym (c.in_default.ensures _)) (c.tell_coming-told.ensures.tells _ _) (omega (arith, c.tell_coming-told.ensures.upper_bound, few-told l, c.if-used-budget.true, c.requires.3, c.tell_coming-told.ensures.length, c.tell_skip-far.ensures.length, c.loop-used.invariant.3)),
      omega (arith, c.if-used-budget.true),
      c.cycle-at.auto.memory ∙ c.tell_skip-far.auto.memory ∙ c.loop-used.invariant.2,
      c.tell_coming-told.ensures.length ∙ c.tell_skip-far.ensures.length ∙ c.loop-used.invariant.3,
    )

pub loop-used-preserved : goal.loop-used-preserved
loop-used-preserved c = (
  watching-on c.loop-used.invariant.0 c.loop-used.invariant.1 c.tell_skip-far.ensures.reaches c.tell_skip-far.ensures.goes c.tell_skip-far.ensures.within c.tell_skip-far.ensures.tells c.tell_skip-far.ensures.upper_bound,
  omega (arith, c.tell_skip-far.ensures.within, c.loop-used.invariant.1),
  c.tell_skip-far.auto.memory ∙ c.loop-used.invariant.2,
  c.tell_skip-far.ensures.length ∙ c.loop-used.invariant.3,
)

pub returns-clause-run : goal.returns-clause-run
returns-clause-run c = running.left-done engine c.loop-used.invariant.0.left (omega (arith, c.loop-used-test.false))
