-- The bits of R15 words.
-- Assumes nothing.
use Rattle.std.proofs.Common.{false, arith}
use Rattle.bits.specs.Bits.{field}
use Rattle.bits.proofs.Fields.{bit-of}
use Rattle.datapath.specs.Counter.{r15_word}
use Rattle.datapath.specs.R15.{R15}

pub r15 : R15
unfolding field r15_word
r15 = record {
  word = λ f a. omega arith;
  flags = λ f a. omega arith;
  counter = λ f a. omega arith;
  bit_27 = λ f a. bit-of (r15_word f a) 27 false (omega arith);
  bit_26 = λ f a. bit-of (r15_word f a) 26 false (omega arith);
  bit_1 = λ f a. bit-of (r15_word f a) 1 false (omega arith);
  bit_0 = λ f a. bit-of (r15_word f a) 0 false (omega arith);
}
