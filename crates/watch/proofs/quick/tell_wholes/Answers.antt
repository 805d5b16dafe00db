use mathlib.Core.Path.{refl, sym, ap, ◌∙◌}
use native.Mathlib.Omega.{arith}
use lib.ListN.{take}
use Rattle.std.proofs.Common.{rules}
use Rattle.plain.proofs.WholeSteps.{duration-short}
use Rattle.plain.specs.Whole.{going}
use Rattle.watch.proofs.Wholes.{goes-start, tells-none, one-quiet, one-halted, none-held, some-held, goes-more, tells-more, kept-told, one-small}
use Rattle.runs.proofs.BoundaryRuns.{duration-positive}
use Rattle.watch.proofs.quick.tell_wholes.Goals.{then-loop-left-test+else-found-count-ge-MOST, else-loop-left-test, then-loop-left-test+then-found-count-ge-MOST+then-is_some}
use Rattle.watch.proofs.quick.tell_wholes.Goals as goal

pub loop-left-init : goal.loop-left-init
loop-left-init c =
    (goes-start _ c.args.budget _ c.default-tally.ensures.0 c.default-tally.ensures.1, search rules, (λ q e. tells-none _ q _ _ _ _), omega (arith, c.requires), refl, refl)

pub overflow_sub-left : goal.overflow_sub-left
overflow_sub-left c =
    let o = one-quiet _ _ c.loop-left-test.true _ _ _ _ _ c.wholes-came.ensures (none-held _ (sym c.is_some.ensures ∙ c.if-is_some.false)) in
    omega (arith, o.1, duration-short (going c.loop-left.registers c.loop-left.flags c.loop-left.a c.args.from.board c.loop-left.memory), c.loop-left-test.true)

pub loop-left-preserved : goal.loop-left-preserved
loop-left-preserved c =
    let o = one-quiet _ _ c.loop-left-test.true _ _ _ _ _ c.wholes-came.ensures (none-held _ (sym c.is_some.ensures ∙ c.if-is_some.false)) in
    let i = c.loop-left.invariant in
    let u = duration-short (going c.loop-left.registers c.loop-left.flags c.loop-left.a c.args.from.board c.loop-left.memory) in (
      goes-more _ _ _ _ _ i.0 _ _ _ _ o.0 o.2 o.1 o.3 (omega (arith, i.1, o.1, u, c.loop-left-test.true)),
      omega (arith, i.1),
      (λ q e. tells-more _ _ _ _ _ i.0 _ q _ _ _ _ _ _ _ _ o.0 e (i.2 q e) c.tell_due-more.ensures.tells),
      omega (arith, c.tell_due-more.ensures.upper_bound, c.if-found-count-ge-MOST.true, i.3),
      c.tell_due-more.auto.found ∙ i.4,
      c.wholes-came.auto.memory ∙ i.5,
    )

pub overflow_add-tally : goal.overflow_add-tally
overflow_add-tally c =
    let o = one-quiet _ _ c.loop-left-test.true _ _ _ _ _ c.wholes-came.ensures (none-held _ (sym c.is_some.ensures ∙ c.if-is_some.false)) in
    let s = one-small _ _ _ o.2 o.1 in
    let u = duration-short (going c.loop-left.registers c.loop-left.flags c.loop-left.a c.args.from.board c.loop-left.memory) in
    record { fits = omega (arith, c.loop-left.invariant.0.small.0, c.loop-left.invariant.0.small.1, s.0, s.1, o.1, u, c.requires.0) }

pub overflow_add-tally-in-loop-left : goal.overflow_add-tally-in-loop-left
overflow_add-tally-in-loop-left c =
    let o = one-quiet _ _ c.loop-left-test.true _ _ _ _ _ c.wholes-came.ensures (none-held _ (sym c.is_some.ensures ∙ c.if-is_some.false)) in
    let s = one-small _ _ _ o.2 o.1 in
    let u = duration-short (going c.loop-left.registers c.loop-left.flags c.loop-left.a c.args.from.board c.loop-left.memory) in
    record { fits = omega (arith, c.loop-left.invariant.0.small.1, s.1, o.1, u, c.requires.0) }

pub loop-left-smaller : goal.loop-left-smaller
loop-left-smaller c =
    let o = one-quiet _ _ c.loop-left-test.true _ _ _ _ _ c.wholes-came.ensures (none-held _ (sym c.is_some.ensures ∙ c.if-is_some.false)) in
    omega (arith, duration-positive _ o.0, o.1, c.loop-left-test.true)

pub returns-clause-through : goal.returns-clause-through
returns-clause-through c =
    let g = c.loop-left.invariant.0 in
    elim c.loop-left-test.branch [
      | then-loop-left-test+else-found-count-ge-MOST w ↦ rw (w.registers-is, w.memory-is) g
      | else-loop-left-test w ↦ rw (w.registers-is, w.memory-is) g
      | then-loop-left-test+then-found-count-ge-MOST+then-is_some w ↦
          let h = one-halted _ _ w.loop-left-test.true _ _ _ _ _ w.wholes-came.ensures (some-held _ (sym w.is_some.ensures ∙ w.if-is_some.true)) in
          rw (w.registers-is ∙ h.0, w.memory-is ∙ h.1) g
    ]

pub returns-clause-tells : goal.returns-clause-tells
returns-clause-tells c =
    let t = c.loop-left.invariant.2 in
    elim c.loop-left-test.branch [
      | then-loop-left-test+else-found-count-ge-MOST w ↦ rw w.found-is t
      | else-loop-left-test w ↦ rw w.found-is t
      | then-loop-left-test+then-found-count-ge-MOST+then-is_some w ↦
          let k = kept-told _ _ _ _ _ w.tell_due-more.ensures.lower_bound c.loop-left.invariant.3 w.tell_due-more.ensures.tells in
          λ q e. ap (take c.loop-left.count) w.found-is ∙ k ∙ t q e
    ]
