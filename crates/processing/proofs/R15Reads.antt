-- R15 reads so, by computation on the definitions.
-- Assumes nothing.
use mathlib.Core.Path.{refl}
use Rattle.bits.specs.Bits.{field, bit}
use Rattle.word.specs.Reader.{read_of}
use Rattle.datapath.specs.Shifter.{by_register, by_amount, constant}
use Rattle.datapath.specs.Alu.{sum, operate}
use Rattle.datapath.specs.Counter.{ahead, r15_word}
use Rattle.registers.specs.Registers.{register, arrives}
use Rattle.processing.specs.Processing.{operand_of, computed_of, flags_after, stored, processed}
use Rattle.processing.specs.R15Reads.{R15Reads}

pub r15-reads : R15Reads
unfolding field bit read_of by_register by_amount constant sum operate ahead r15_word register arrives operand_of computed_of flags_after stored processed
r15-reads = record { rn = refl; rm = refl; both = refl; rn_by_register = refl; rm_by_register = refl; both_by_register = refl }
