-- The divisor is the ticks' or, where that passes 64 bits, the greatest number, which is above the dividend. Assumes nothing.
use Rattle.link.proofs.Rates.{rate-by}
use Rattle.link.proofs.summaries.rate.Goals as goal

pub returns : goal.returns
returns c =
    rate-by c.args.s c.args.clock c.saturating_sub.result c.saturating_sub-span.result c.saturating_mul.result c.div_ceil.result c.saturating_sub.ensures
    c.saturating_sub-span.ensures c.if-span-eq0.false c.saturating_mul.ensures c.requires c.div_ceil.ensures
