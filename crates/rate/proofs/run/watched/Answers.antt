-- A piece. Assumes nothing.
use Rattle.std.proofs.Common.{◌∙◌, ◌≤◌, ◌+◌, sym, ap, subst, arith, replicate, take, refl}
use Rattle.std.specs.List.{All}
use Rattle.plain.specs.Told.{ran_to}
use Rattle.stops.specs.Numbers.{held_number}
use Rattle.cycle.specs.declared.Control.{Control}
use Rattle.cycle.specs.Machine.{machine}
use Rattle.link.specs.declared.Buffer.{Buffer}
use Rattle.link.specs.declared.Summary.{Summary}
use Rattle.link.specs.Window.{window}
use Rattle.link.specs.Fold.{empty}
use Rattle.link.specs.Summary.{Word}
use Rattle.rate.specs.Request.{most_cycles}
use Rattle.rate.proofs.Blank.{blank-buffer, blank-summary, a-stop, no-stop}
use Rattle.rate.proofs.Handed.{into-words}
use Rattle.rate.proofs.Parts.{Stands, Piece, heard-start, stands-start, stands-end, rooms, used-most, used-all, piece-heard, piece-spent, piece-stopped}
use Rattle.rate.proofs.run.watched.Goals as goal

pub loop-used-init : goal.loop-used-init
loop-used-init g c =
    let m = machine c.args.registers.now c.args.c c.args.image.now in
    let e = blank-buffer c.default-buffers.result c.default-buffers.ensures in
    let n = blank-summary c.default-summary.result c.default-summary.ensures in
    let start = stands-start c.args.r.now m c.requires.limits.count c.requires.counted in
    let full = subst (λ (x : Buffer). Stands c.args.r.now m 0 m c.default-summary.result (replicate 32 x)) (sym e)
    (subst (λ (x : Summary). Stands c.args.r.now m 0 m x (replicate 32 empty)) (sym n) start) in
    record { stands = full; heard = heard-start c.args.r.now m; size = refl }

pub overflow_add-used : goal.overflow_add-used
overflow_add-used g c =
    let most = used-most _ _ _ c.watch_from-piece.ensures.run in
    record { fits = omega (arith, most, c.min-budget.ensures, c.loop-used-test.true, c.requires.cycles) }

pub take-requires-clause-words : goal.take-requires-clause-words
take-requires-clause-words g c =
    subst (All Word) (sym c.watch_from-piece.ensures.stores)
    (into-words (window c.args.r.now.from c.args.r.now.to) (machine c.loop-used.registers c.loop-used.at c.loop-used.image) c.watch_from-piece.result.ran.used)

pub take-requires-clause-rooms : goal.take-requires-clause-rooms
take-requires-clause-rooms g c =
    let most = used-most _ _ _ c.watch_from-piece.ensures.run in
    let room : c.loop-used.used + c.watch_from-piece.result.ran.used ≤ most_cycles = omega (arith, most, c.min-budget.ensures, c.loop-used-test.true, c.requires.cycles) in
    rooms {m₀ = machine c.args.registers.now c.args.c c.args.image.now} _ _ c.loop-used.invariant.stands c.watch_from-piece.ensures.stores room

pub loop-used-smaller : goal.loop-used-smaller
loop-used-smaller g c =
    let zero = ap held_number (no-stop c.watch_from-piece.result.ran.stop (sym c.is_some.ensures ∙ c.if-is_some.false)) in
    let all = used-all c.min-budget.result (machine c.loop-used.registers c.loop-used.at c.loop-used.image) _ c.watch_from-piece.ensures.run zero in
    omega (arith, all, c.min-budget.ensures, c.loop-used-test.true)

pub loop-used-preserved : goal.loop-used-preserved
loop-used-preserved g c =
    let p : Piece c.args.r.now (machine c.args.registers.now c.args.c c.args.image.now) (machine c.loop-used.registers c.loop-used.at c.loop-used.image) c.loop-used.used c.min-budget.result
    (ran_to (λ (d : Control). machine c.watch_from-piece.new.registers d c.watch_from-piece.new.memory) c.watch_from-piece.result.ran)
    (take c.watch_from-piece.result.told c.watch_from-piece.new.found) c.loop-used.summary c.summed-summary.result c.loop-used.buffers c.take.new.buffers = record {
      stands = c.loop-used.invariant.stands;
      fits = omega (arith, c.min-budget.ensures, c.loop-used-test.true);
      run = c.watch_from-piece.ensures.run;
      is = c.watch_from-piece.ensures.stores;
      sums = c.summed-summary.ensures;
      more = c.take.ensures.more;
      filled = c.take.ensures.filled;
    } in
    let none = no-stop c.watch_from-piece.result.ran.stop (sym c.is_some.ensures ∙ c.if-is_some.false) in
    let zero = ap held_number none in
    record { stands = piece-spent p zero (c.watch_from-piece.ensures.reaches none); heard = piece-heard p c.loop-used.invariant.heard c.hear.ensures; size = c.watch_from-piece.auto.found ∙ c.loop-used.invariant.size }

pub returns-then-is_some : goal.returns-then-is_some
returns-then-is_some g c =
    let p : Piece c.args.r.now (machine c.args.registers.now c.args.c c.args.image.now) (machine c.loop-used.registers c.loop-used.at c.loop-used.image) c.loop-used.used c.min-budget.result
    (ran_to (λ (d : Control). machine c.watch_from-piece.new.registers d c.watch_from-piece.new.memory) c.watch_from-piece.result.ran)
    (take c.watch_from-piece.result.told c.watch_from-piece.new.found) c.loop-used.summary c.summed-summary.result c.loop-used.buffers c.take.new.buffers = record {
      stands = c.loop-used.invariant.stands;
      fits = omega (arith, c.min-budget.ensures, c.loop-used-test.true);
      run = c.watch_from-piece.ensures.run;
      is = c.watch_from-piece.ensures.stores;
      sums = c.summed-summary.ensures;
      more = c.take.ensures.more;
      filled = c.take.ensures.filled;
    } in
    record { ends = piece-stopped p (a-stop c.watch_from-piece.result.ran.stop (sym c.is_some.ensures ∙ c.if-is_some.true)); heard = piece-heard p c.loop-used.invariant.heard c.hear.ensures }

pub returns : goal.returns
returns g c = record { ends = stands-end c.loop-used.invariant.stands (omega (arith, c.loop-used-test.false)); heard = c.loop-used.invariant.heard }
