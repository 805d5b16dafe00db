-- The marked values hold, by computation on the definitions.
-- Assumes nothing.
use Rattle.std.proofs.Common.{refl}
use Rattle.bits.specs.Bits.{field, bit}
use Rattle.datapath.specs.Shifter.{rotated, lsl, lsr, ror, shift, by_register, by_amount, constant}
use Rattle.datapath.specs.Alu.{sum, difference, operate, flags_of}
use Rattle.datapath.specs.Counter.{ahead, r15_word}
use Rattle.datapath.specs.Marked.{Marked}

pub marked : Marked
unfolding field bit rotated lsl lsr ror shift by_register by_amount constant sum difference operate flags_of ahead r15_word
marked = record {
  subs_equal = λ s c v. refl;
  subs_borrow = λ s c v. refl;
  subs_overflow = λ s c v. refl;
  adds_overflow = λ s c v. refl;
  lsr_0 = λ c. refl;
  ror_0 = refl;
  lsl_20 = λ c. refl;
  lsl_21 = λ c. refl;
  constant_4FF = λ c. refl;
  link = refl;
  stored = refl;
}
