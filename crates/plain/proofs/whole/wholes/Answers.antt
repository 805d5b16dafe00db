use Rattle.std.proofs.Common.{rules, refl, sym, ◌∙◌, arith}
use Rattle.stops.proofs.Numbers.{some_number}
use Rattle.plain.specs.Whole.{going}
use Rattle.plain.proofs.WholeSteps.{left-start, left_step, left-stop, left-short, left-done, stopped-tally, left-cycles, stop-told, cycles-told, step-told, adds-told, goes-told}
use Rattle.plain.proofs.whole.wholes.Goals.{then-loop-more-test+then-left-lt-LONGEST, else-loop-more-test}
use Rattle.plain.proofs.whole.wholes.Goals as goal

pub loop-more-init : goal.loop-more-init
loop-more-init c = (left-start _ _ _ c.requires.0 c.requires.1, refl)

pub overflow_sub-left : goal.overflow_sub-left
overflow_sub-left c =
    let h = c.if-left-lt-LONGEST.false in
    omega (arith, h, c.from-left.ensures, left-cycles c.loop-more.invariant.0 c.in-Ok.ensures.told)

pub loop-more-preserved : goal.loop-more-preserved
loop-more-preserved c =
    let l = c.loop-more.invariant.0 in
    let e = c.in-Ok.ensures.told in
    (rw c.from-left.ensures (left_step l c.loop-more-test.true c.if-left-lt-LONGEST.false (stop-told _ e) (cycles-told _ e) (goes-told _ e refl) (adds-told _ e _ c.in-Ok.ensures.tally)), search rules)

pub returns-in-Err : goal.returns-in-Err
returns-in-Err c =
    let l = c.loop-more.invariant.0 in
    let e = c.in-Err.ensures.told in
    let at = going c.loop-more.registers c.loop-more.status c.loop-more.here c.args.from.board c.loop-more.memory in
    let left = stopped-tally at _ (adds-told at e _ c.in-Err.ensures.tally) (λ z. some_number _ (sym (stop-told at e) ∙ z)) in
    rw (left, step-told _ e) (left-stop l c.loop-more-test.true c.if-left-lt-LONGEST.false (stop-told _ e) (some_number _))

pub returns : goal.returns
returns c =
    let l = c.loop-more.invariant.0 in
    elim c.loop-more-test.branch [
      | then-loop-more-test+then-left-lt-LONGEST w ↦ left-short l w.if-left-lt-LONGEST.true
      | else-loop-more-test w ↦ left-done l w.loop-more-test.false
    ]
