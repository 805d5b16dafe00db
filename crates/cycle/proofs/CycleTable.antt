-- The table holds, by computation on the definitions.
-- Assumes nothing.
use mathlib.Core.Path.{refl}
use Rattle.bits.specs.Bits as bits
use Rattle.word.specs.Reader as reader
use Rattle.condition.specs.Condition as condition
use Rattle.datapath.specs.Shifter as shifter
use Rattle.datapath.specs.Alu as alu
use Rattle.datapath.specs.Counter as counter
use Rattle.memory.specs.Bytes as bytes
use Rattle.memory.specs.Memory as memory
use Rattle.stops.specs.Stops.{due}
use Rattle.registers.specs.Registers as registers
use Rattle.processing.specs.Processing as processing
use Rattle.multiply.specs.InternalCycles as internal
use Rattle.multiply.specs.Multiply as multiply
use Rattle.transfer.specs.Single as single
use Rattle.transfer.specs.Block as block
use Rattle.semantics.specs.Branch as branch
use Rattle.semantics.specs.Duration.{stores_counter}
use Rattle.semantics.specs.Sums.{sums_of}
use Rattle.steps.specs.Steps as steps
use Rattle.cycle.specs.Cycle.{own_of, cycle}
use Rattle.cycle.specs.CycleTable as table
use Rattle.cycle.specs.CycleTable.{CycleTable}

pub cycle-table : CycleTable
unfolding table.changes table.rows bits.field bits.bit reader.read_of condition.passes shifter.rotated shifter.lsl shifter.shift shifter.by_register alu.operate alu.flags_of counter.ahead counter.counter counter.r15_word bytes.holds_word bytes.word_in bytes.with_word bytes.byte_in memory.place memory.limit memory.word_at due registers.register registers.put registers.arrives processing.operand_of processing.computed_of processing.flags_after processing.stored processing.processed single.offset_of single.changed_base single.address_of single.with_base single.loaded_value single.stored_value single.stored_to block.named_from block.named block.changed_base block.lowest_address block.with_base internal.first_above internal.m_of multiply.product_of multiply.flags_after multiply.multiplied branch.branched stores_counter sums_of counter.behind steps.first_step steps.load_later steps.store_later steps.load_step steps.block_load_later steps.store_step steps.block_store_later steps.multiply_later steps.later_step own_of cycle
cycle-table = record { cycles = refl }
