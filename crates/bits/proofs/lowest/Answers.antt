use mathlib.Core.Path.{sym}
use native.Mathlib.Nat.{mod-eq_of_lt}
use Rattle.bits.proofs.Fields.{word_lt}
use Rattle.bits.proofs.lowest.Goals as goal

pub returns-else-width-lt32 : goal.returns-else-width-lt32
returns-else-width-lt32 c = sym (mod-eq_of_lt (word_lt _ _ c.ranges.word.fits c.if-width-lt32.false))
