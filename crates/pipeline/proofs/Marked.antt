-- The marked values: the report by computation, the others from where they are proved.
-- Assumes nothing.
use mathlib.Core.Path.{refl}
use Rattle.bits.specs.Bits as bits
use Rattle.word.specs.Reader as reader
use Rattle.condition.specs.Condition as condition
use Rattle.datapath.specs.Shifter as shifter
use Rattle.datapath.specs.Alu as alu
use Rattle.datapath.specs.Counter as counter
use Rattle.memory.specs.Bytes as bytes
use Rattle.memory.specs.Memory as memory
use Rattle.registers.specs.Registers as registers
use Rattle.processing.specs.Processing as processing
use Rattle.semantics.specs.Branch as branch
use Rattle.semantics.specs.Effect as effect
use Rattle.semantics.specs.Duration as duration
use Rattle.semantics.specs.Sums as sums
use Rattle.stops.specs.Rules as rules
use Rattle.stops.specs.Moves as moves
use Rattle.stops.specs.Walk as walk
use Rattle.stops.specs.Stops as stops
use Rattle.plain.specs.Numbers as plain
use Rattle.steps.specs.Steps.{first_step, later_step}
use Rattle.cycle.specs.Cycle.{own_of, cycle}
use Rattle.cycle.specs.StopFound.{stop_found}
use Rattle.refusals.specs.Numbers.{bad, refusal}
use Rattle.pipeline.specs.Calls.{start, run}
use Rattle.plain.specs.Running.{runs}
use Rattle.pipeline.specs.Marked.{Report, Marked}
use Rattle.datapath.proofs.Marked as datapath
use Rattle.stops.proofs.Marked as stopping
use Rattle.semantics.proofs.Marked as semantics

report : Report
unfolding bits.field bits.bit reader.read_of condition.passes shifter.constant shifter.ror shifter.rotated alu.sum alu.difference alu.operate alu.flags_of counter.ahead counter.counter counter.r15_word bytes.holds_word bytes.word_in memory.place memory.limit memory.word_at registers.register registers.put registers.arrives processing.operand_of processing.computed_of processing.flags_after processing.stored processing.processed branch.branched duration.stores_counter sums.sums_of effect.effect_of rules.rule_broken moves.moves_of walk.walk stops.due stops.stop_of stops.stop_for plain.start_answer counter.behind first_step later_step own_of cycle stop_found bad refusal start runs run
report = record { answer = refl; pc = refl; cycles = refl; ticks = refl; retired = refl; flags = refl; registers = refl }

pub marked : Marked
marked = record { datapath = datapath.marked; stops = stopping.marked; instructions = semantics.marked; report = report }
