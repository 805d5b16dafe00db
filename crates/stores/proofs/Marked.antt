-- The marked stores, by computation.
-- Assumes nothing.
use mathlib.Core.Path.{refl}
use Rattle.bits.specs.Bits as bits
use Rattle.word.specs.Reader as reader
use Rattle.condition.specs.Condition as condition
use Rattle.datapath.specs.Shifter as shifter
use Rattle.datapath.specs.Alu as alu
use Rattle.datapath.specs.Counter as counter
use Rattle.memory.specs.Bytes as bytes
use Rattle.memory.specs.Memory as memory
use Rattle.stops.specs.Rules as rules
use Rattle.stops.specs.Moves as moves
use Rattle.stops.specs.Walk as walk
use Rattle.stops.specs.Stops as stops
use Rattle.registers.specs.Registers as registers
use Rattle.processing.specs.Processing as processing
use Rattle.multiply.specs.InternalCycles as internal
use Rattle.multiply.specs.Multiply as multiply
use Rattle.transfer.specs.Single as single
use Rattle.transfer.specs.Block as block
use Rattle.semantics.specs.Branch as branch
use Rattle.semantics.specs.Effect as effect
use Rattle.semantics.specs.Duration as duration
use Rattle.semantics.specs.Perform as perform
use Rattle.semantics.specs.Sums as sums
use Rattle.plain.specs.Machine as plain
use Rattle.plain.specs.Trace as trace
use Rattle.steps.specs.Steps as steps
use Rattle.cycle.specs.Cycle.{own_of, cycle}
use Rattle.stores.specs.Writes as written
use Rattle.stores.specs.Coming as coming
use Rattle.stores.specs.Planned as planned
use Rattle.stores.specs.Marked.{Marked}

pub marked : Marked
unfolding bits.field bits.bit reader.read_of condition.passes shifter.rotated shifter.lsl shifter.shift shifter.by_register alu.operate alu.flags_of counter.ahead counter.counter counter.r15_word bytes.holds_word bytes.word_in bytes.with_word bytes.byte_in memory.place memory.limit memory.word_at rules.rule_broken moves.moves_of walk.walk stops.due stops.stop_of stops.stop_for registers.register registers.put registers.arrives processing.operand_of processing.computed_of processing.flags_after processing.stored processing.processed single.offset_of single.changed_base single.address_of single.with_base single.loaded_value single.stored_value single.stored_to block.named_from block.named block.changed_base block.lowest_address block.with_base block.loads block.stores block.stores_all internal.first_above internal.m_of multiply.product_of multiply.flags_after multiply.multiplied branch.branched effect.load_effect effect.store_effect effect.block_load_effect effect.block_store_effect effect.effect_of duration.own_steps duration.stores_counter perform.executed perform.performs sums.sums_of sums.executed_sums sums.performs_sums plain.performed_at plain.step trace.trace trace.stop_met trace.duration trace.durations trace.adds trace.added counter.behind steps.first_step steps.load_later steps.store_later steps.load_step steps.block_load_later steps.store_step steps.block_store_later steps.multiply_later steps.later_step own_of cycle written.left written.width written.burst written.first_address written.writes coming.coming coming.stored_by coming.stored planned.writes_at planned.stores_of
marked = record { core = refl; plain_machine = refl; byte = refl; word = refl; load = refl; block_load = refl; block = refl }
