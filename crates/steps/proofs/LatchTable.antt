-- The latches, registers and endings are so, by computation on the definitions.
-- Assumes nothing.
use mathlib.Core.Path.{refl}
use Rattle.bits.specs.Bits.{field, bit}
use Rattle.word.specs.Reader.{read_of}
use Rattle.datapath.specs.Shifter.{rotated, lsl, shift, by_register, by_amount}
use Rattle.datapath.specs.Alu.{operate, flags_of}
use Rattle.datapath.specs.Counter.{ahead, behind, r15_word}
use Rattle.memory.specs.Bytes.{holds_word, word_in, with_word}
use Rattle.memory.specs.Memory.{place}
use Rattle.registers.specs.Registers.{register, put, arrives}
use Rattle.processing.specs.Processing.{operand_of, computed_of, flags_after, stored, processed}
use Rattle.multiply.specs.InternalCycles.{first_above, m_of}
use Rattle.multiply.specs.Multiply as multiply
use Rattle.multiply.specs.Multiply.{product_of, multiplied}
use Rattle.transfer.specs.Single as single
use Rattle.transfer.specs.Single.{offset_of, address_of, loaded_value, stored_value, stored_to}
use Rattle.transfer.specs.Block.{named_from, named, changed_base, lowest_address, with_base}
use Rattle.semantics.specs.Branch.{branched}
use Rattle.steps.specs.Steps.{first_step, load_later, store_later, load_step, block_load_later, store_step, block_store_later, multiply_later, later_step}
use Rattle.steps.specs.LatchTable.{LatchTable}

pub latch-table : LatchTable
unfolding field bit read_of rotated lsl shift by_register by_amount operate flags_of ahead r15_word holds_word word_in with_word place register put arrives operand_of computed_of flags_after stored processed offset_of address_of loaded_value stored_value stored_to single.changed_base single.with_base named_from named changed_base lowest_address with_base branched behind first_above m_of product_of multiply.flags_after multiplied first_step load_later store_later load_step block_load_later store_step block_store_later multiply_later later_step
latch-table = record {
  moved = refl;
  branched = refl;
  shift_1 = refl;
  shift_2 = refl;
  multiply_1 = refl;
  multiply_2 = refl;
  multiply_3 = refl;
  long_multiply_4 = refl;
  long_multiply_5 = refl;
  own_multiply_2 = refl;
  own_multiply_3 = refl;
  load_1 = refl;
  load_2 = refl;
  load_3 = refl;
  plain_load_1 = refl;
  plain_load_2 = refl;
  plain_load_3 = refl;
  base_load_1 = refl;
  base_load_2 = refl;
  base_load_3 = refl;
  counter_load_3 = refl;
  store_1 = refl;
  store_2 = refl;
  counter_store_1 = refl;
  counter_store_2 = refl;
  block_load_1 = refl;
  block_load_2 = refl;
  block_load_3 = refl;
  block_load_4 = refl;
  block_load_5 = refl;
  base_block_load_2 = refl;
  base_block_load_3 = refl;
  base_block_load_4 = refl;
  base_block_load_5 = refl;
  block_store_1 = refl;
  block_store_2 = refl;
  block_store_3 = refl;
  block_store_4 = refl;
  base_block_store_1 = refl;
  base_block_store_2 = refl;
}
