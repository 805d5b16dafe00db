-- A turn. Assumes nothing.
use Rattle.std.proofs.Common.{ap, subst, ◌∙◌, ◌<◌, ◌≡◌, length, arith}
use Rattle.std.proofs.Math.ListN.{length-set}
use Rattle.link.specs.declared.Line.{Line}
use Rattle.link.specs.Fold.{all_taken, Filled}
use Rattle.rate.specs.Folds.{line_at, buffer_at}
use Rattle.rate.proofs.Turns.{turn-more, turn-filled, turn-rest}
use Rattle.rate.proofs.folds.take.Goals as goal

pub loop-k-preserved : goal.loop-k-preserved
loop-k-preserved c =
    let r = c.args.r.now in
    let now = c.loop-k.buffers in
    let k = c.loop-k.k in
    let b = c.all_taken.result in
    let room : k < length now = omega (arith, c.loop-k-test.true, c.requires.limits.count, c.loop-k.invariant.size) in
    let is : b ≡ all_taken (line_at r k) (buffer_at now k) c.args.es.now =
    c.all_taken.ensures.value ∙ ap (λ (o : Line). all_taken o (buffer_at now k) c.args.es.now) c.line_at.ensures in
    let full : Filled (line_at r k) b = subst (λ (o : Line). Filled o b) c.line_at.ensures c.all_taken.ensures.filled in
    record {
      size = length-set now k b ∙ c.loop-k.invariant.size;
      more = turn-more (line_at r) c.args.buffers.now now k c.args.es.now b room c.loop-k.invariant.rest is c.loop-k.invariant.more;
      filled = turn-filled (line_at r) c.args.buffers.now now k c.args.es.now b room c.loop-k.invariant.rest is c.loop-k.invariant.filled full;
      rest = turn-rest (line_at r) c.args.buffers.now now k c.args.es.now b room c.loop-k.invariant.rest is;
    }
