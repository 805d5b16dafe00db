-- The table of shifts holds, by computation on the definitions.
-- Assumes nothing.
use Rattle.std.proofs.Common.{refl}
use Rattle.bits.specs.Bits.{field, bit}
use Rattle.datapath.specs.Shifter.{rotated, signed, lsl, lsr, asr, ror, shift, by_register, by_amount, constant}
use Rattle.datapath.specs.ShiftTable.{ShiftTable}

pub shift-table : ShiftTable
unfolding field bit rotated signed lsl lsr asr ror shift by_register by_amount constant
shift-table = record {
  lsl = λ c. refl;
  lsr = λ c. refl;
  asr = λ c. refl;
  ror = λ c. refl;
  kept = λ kind c. refl;
  once = λ c. refl;
  lsl_far = λ c. refl;
  lsr_far = λ c. refl;
  asr_far = λ c. refl;
  asr_plus = λ c. refl;
  ror_far = λ c. refl;
  constants = λ c. refl;
}
