use mathlib.Core.Path.{refl, sym, ap, ◌∙◌}
use native.Mathlib.Omega.{arith}
use Rattle.link.specs.Summary.{summed}
use Rattle.watch.proofs.Wholes.{none-held, some-held}
use Rattle.watch.proofs.Pieces.{rating-start, counts-there, used-within, piece-spent, piece-halted, rating-done}
use Rattle.watch.proofs.rated.rate_from.Goals as goal

pub loop-used-init : goal.loop-used-init
loop-used-init c = (rating-start _ _ _ _, refl, refl)

pub watch_from-seen-requires : goal.watch_from-seen-requires
watch_from-seen-requires c =
    let n = counts-there c.loop-used.invariant.0 in
    let p = c.min-piece.ensures in
    (omega (arith, n.0, p, c.requires.0, c.loop-used-test.true), omega (arith, n.0, n.1, c.requires.1), omega (arith, n.2, p, c.requires.2, c.loop-used-test.true), omega (arith, p, c.loop-used.invariant.2))

pub overflow_add-used : goal.overflow_add-used
overflow_add-used c = record { fits = omega (arith, used-within _ _ c.watch_from-seen.ensures.run, c.min-piece.ensures, c.loop-used-test.true, c.requires.0) }

pub loop-used-smaller : goal.loop-used-smaller
loop-used-smaller c =
    let p = piece-spent c.loop-used.invariant.0 c.min-piece.result (omega (arith, c.min-piece.ensures, c.loop-used-test.true)) _ c.watch_from-seen.ensures.run _ (c.summed-summary.ensures ∙ ap (summed c.loop-used.summary) c.watch_from-seen.ensures.stores) (none-held _ (sym c.is_some.ensures ∙ c.if-is_some.false)) in
    omega (arith, p.1, c.min-piece.ensures, c.loop-used-test.true)

pub loop-used-preserved : goal.loop-used-preserved
loop-used-preserved c =
    let p = piece-spent c.loop-used.invariant.0 c.min-piece.result (omega (arith, c.min-piece.ensures, c.loop-used-test.true)) _ c.watch_from-seen.ensures.run _ (c.summed-summary.ensures ∙ ap (summed c.loop-used.summary) c.watch_from-seen.ensures.stores) (none-held _ (sym c.is_some.ensures ∙ c.if-is_some.false)) in
    (p.0, c.watch_from-seen.auto.memory ∙ c.loop-used.invariant.1, c.watch_from-seen.auto.found ∙ c.loop-used.invariant.2)

pub returns-then-is_some : goal.returns-then-is_some
returns-then-is_some c = piece-halted c.loop-used.invariant.0 c.min-piece.result (omega (arith, c.min-piece.ensures, c.loop-used-test.true)) _ c.watch_from-seen.ensures.run _ (c.summed-summary.ensures ∙ ap (summed c.loop-used.summary) c.watch_from-seen.ensures.stores) (some-held _ (sym c.is_some.ensures ∙ c.if-is_some.true))

pub returns : goal.returns
returns c = rating-done c.loop-used.invariant.0 (omega (arith, c.loop-used-test.false))
