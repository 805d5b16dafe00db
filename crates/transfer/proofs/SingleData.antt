-- The bytes and offsets are so, by computation on the definitions.
-- Assumes nothing.
use Rattle.std.proofs.Common.{refl}
use Rattle.bits.specs.Bits.{field, bit}
use Rattle.datapath.specs.Shifter.{rotated, signed, lsl, lsr, asr, ror, shift, by_amount}
use Rattle.memory.specs.Bytes.{holds_word, word_in, with_word, byte_in, with_byte}
use Rattle.memory.specs.Memory.{place}
use Rattle.registers.specs.Registers.{register}
use Rattle.transfer.specs.Single.{offset_of, loaded_value, stored_to}
use Rattle.transfer.specs.SingleData.{SingleData}

pub single-data : SingleData
unfolding field bit rotated signed lsl lsr asr ror shift by_amount holds_word word_in with_word byte_in with_byte place register offset_of loaded_value stored_to
single-data = record {
  words = refl;
  bytes = refl;
  stored_0 = refl;
  stored_1 = refl;
  stored_3 = refl;
  stored_7 = refl;
  byte_0 = refl;
  byte_3 = refl;
  twelve_bits = λ g f. refl;
  lsl = refl;
  lsr = refl;
  asr = refl;
  ror = refl;
}
