-- Pair k adds its byte; past the last pair nothing is left. Assumes nothing.
use Rattle.std.proofs.Common.{◌∙◌, ◌*◌, ◌/◌, ◌<◌, ◌≤◌, length, max, refl, ap, arith}
use borrow.Author.Tests.{lt-ltb, le-ltb}
use Rattle.intel_hex.proofs.Pairs.{turn-digits, turn-sum, turn-held, end-digits, end-sum, end-held}
use Rattle.intel_hex.proofs.digits.decode.Goals as goal

pub loop-k-preserved : goal.loop-k-preserved
loop-k-preserved c =
    let l = c.loop-k in
    let high = c.value_of-high.ensures.value in
    let low = c.value_of-low.ensures.value in
    let worst = c.max-worst.ensures ∙ ap (λ w. max w c.value_of-low.result) c.max.ensures in
    let there : l.k < length c.args.digits.now / 2 = omega (arith, c.requires, c.loop-k-test.true) in
    record {
      digits = turn-digits _ l.k l.worst _ _ _ there high low worst l.invariant.digits;
      summed = turn-sum _ l.k l.worst _ _ _ l.sum _ there high low worst refl l.invariant.summed;
      held = turn-held _ l.into _ l.k l.worst _ _ _ _ there (omega (arith, l.auto.into, c.loop-k-test.true)) high low worst refl refl l.invariant.held;
    }

pub returns-then-worst-lt16 : goal.returns-then-worst-lt16
returns-then-worst-lt16 c =
    let l = c.loop-k in
    let end : length c.args.digits.now ≤ 2 * l.k = omega (arith, c.requires, c.loop-k-test.false) in (
      end-digits _ l.k l.worst end l.invariant.digits ∙ lt-ltb l.worst 16 c.if-worst-lt16.true,
      end-sum _ l.k l.sum end (omega (arith, l.auto.sum-fits)) (l.invariant.summed c.if-worst-lt16.true),
      end-held _ l.into l.k end (omega (arith, l.auto.into, c.loop-k-test.false)) (l.invariant.held c.if-worst-lt16.true),
    )

pub returns-else-worst-lt16 : goal.returns-else-worst-lt16
returns-else-worst-lt16 c =
    let l = c.loop-k in
    let end : length c.args.digits.now ≤ 2 * l.k = omega (arith, c.requires, c.loop-k-test.false) in
    end-digits _ l.k l.worst end l.invariant.digits ∙ le-ltb l.worst 16 c.if-worst-lt16.false
