-- The sums of marked instructions, by computation on the definitions.
-- Assumes nothing.
use Rattle.std.proofs.Common.{refl}
use Rattle.bits.specs.Bits.{field, bit}
use Rattle.word.specs.Reader.{read_of}
use Rattle.condition.specs.Condition.{passes}
use Rattle.datapath.specs.Shifter.{shift, lsl, by_amount, by_register}
use Rattle.datapath.specs.Alu.{operate, flags_of}
use Rattle.datapath.specs.Counter.{ahead}
use Rattle.memory.specs.Memory.{place, limit}
use Rattle.registers.specs.Registers.{register}
use Rattle.multiply.specs.InternalCycles.{first_above, m_of}
use Rattle.transfer.specs.Single.{offset_of, changed_base, address_of}
use Rattle.transfer.specs.Block as block
use Rattle.stops.specs.Rules.{rule_broken}
use Rattle.stops.specs.Moves.{moves_of}
use Rattle.stops.specs.Walk.{walk}
use Rattle.stops.specs.Stops.{due, stop_of}
use Rattle.semantics.specs.Duration.{stores_counter}
use Rattle.semantics.specs.Sums.{sums_of, executed_sums, performs_sums}
use Rattle.semantics.specs.MarkedSums.{MarkedSums}

pub marked_sums : MarkedSums
unfolding field bit read_of passes shift lsl by_amount by_register operate flags_of ahead place limit register first_above m_of offset_of changed_base address_of block.named_from block.named block.changed_base block.lowest_address rule_broken moves_of walk due stop_of stores_counter sums_of executed_sums performs_sums
marked_sums = record {
  failed = record { sums = refl; ticks = refl };
  failed_branch = record { sums = refl; ticks = refl };
  failed_block = record { sums = refl; ticks = refl };
  failed_load = record { sums = refl; ticks = refl };
  processing = record { sums = refl; ticks = refl };
  shift_by_register = record { sums = refl; ticks = refl };
  counter = record { sums = refl; ticks = refl };
  counter_shifted = record { sums = refl; ticks = refl };
  flags_alone = record { sums = refl; ticks = refl };
  load = record { sums = refl; ticks = refl };
  load_byte = record { sums = refl; ticks = refl };
  load_counter = record { sums = refl; ticks = refl };
  store = record { sums = refl; ticks = refl };
  store_r15 = record { sums = refl; ticks = refl };
  block_load_1 = record { sums = refl; ticks = refl };
  block_load_3 = record { sums = refl; ticks = refl };
  block_load_counter = record { sums = refl; ticks = refl };
  block_store_1 = record { sums = refl; ticks = refl };
  block_store_3 = record { sums = refl; ticks = refl };
  block_store_r15 = record { sums = refl; ticks = refl };
  branch = record { sums = refl; ticks = refl };
  branch_linked = record { sums = refl; ticks = refl };
  multiply = record { sums = refl; ticks = refl };
  multiply_long = record { sums = refl; ticks = refl };
  multiply_rs = record { sums = refl; ticks = refl };
  other = record { sums = refl; ticks = refl };
  forbidden = record { sums = refl; ticks = refl };
  outside = record { sums = refl; ticks = refl };
  fetched = record { sums = refl; ticks = refl };
  no_word = refl;
}
