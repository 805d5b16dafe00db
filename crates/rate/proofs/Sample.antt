-- A whole answer, by computing: the start, the run cycle by cycle, its stores, and what they are told by. Assumes nothing.
use Rattle.std.proofs.Common.{refl}
use Rattle.bits.specs.Bits as bits
use Rattle.word.specs.Reader as reader
use Rattle.condition.specs.Condition as condition
use Rattle.datapath.specs.Shifter as shifter
use Rattle.datapath.specs.Alu as alu
use Rattle.datapath.specs.Counter as counter
use Rattle.memory.specs.Bytes as bytes
use Rattle.memory.specs.Memory as memory
use Rattle.registers.specs.Registers as registers
use Rattle.processing.specs.Processing as processing
use Rattle.transfer.specs.Single as single
use Rattle.semantics.specs.Duration as duration
use Rattle.semantics.specs.Sums as sums
use Rattle.stops.specs.Rules as rules
use Rattle.stops.specs.Moves as moves
use Rattle.stops.specs.Walk as walk
use Rattle.stops.specs.Stops as stops
use Rattle.plain.specs.Numbers as plain
use Rattle.plain.specs.Running.{runs}
use Rattle.steps.specs.Steps as steps
use Rattle.cycle.specs.Cycle.{own_of, cycle}
use Rattle.cycle.specs.StopFound.{stop_found}
use Rattle.pipeline.specs.Calls.{start}
use Rattle.pipeline.specs.Term3.{fresh}
use Rattle.link.specs.Window.{handed, bad_window}
use Rattle.link.specs.Summary.{noted}
use Rattle.link.specs.Rate.{rate}
use Rattle.link.specs.Buffer.{levels_from, greatest_of, grows, overflow_from}
use Rattle.stores.specs.Writes.{left, width}
use Rattle.stores.specs.Coming.{coming, stored_by, stored}
use Rattle.rate.specs.Request.{rises, refused}
use Rattle.rate.specs.Figures.{chosen}
use Rattle.rate.specs.Answer.{answer}
use Rattle.rate.specs.Marked.{Whole, Marked}
use Rattle.rate.proofs.Marked.{limits, choices, outcomes, texts}

pub whole : Whole
unfolding bits.field bits.bit reader.read_of condition.passes shifter.constant shifter.ror shifter.rotated alu.sum alu.difference alu.operate alu.flags_of counter.ahead counter.counter counter.r15_word counter.behind bytes.holds_word bytes.word_in bytes.with_word memory.place memory.limit memory.word_at registers.register registers.put registers.arrives processing.operand_of processing.computed_of processing.flags_after processing.stored processing.processed single.offset_of single.changed_base single.address_of single.with_base single.stored_value single.stored_to duration.stores_counter sums.sums_of rules.rule_broken moves.moves_of walk.walk stops.due stops.stop_of stops.stop_for plain.start_answer runs steps.first_step steps.later_step steps.store_later own_of cycle stop_found start fresh handed bad_window noted rate levels_from greatest_of grows overflow_from left width coming stored_by stored rises refused chosen answer
whole = record { ended = refl; stopped = refl; refused = refl }

pub marked : Marked
marked = record { limits = limits; choices = choices; outcomes = outcomes; texts = texts; whole = whole }
