-- The tables hold, by computation on the definitions.
-- Assumes nothing.
use mathlib.Core.Path.{refl}
use Rattle.bits.specs.Bits as bits
use Rattle.word.specs.Reader as reader
use Rattle.condition.specs.Condition as condition
use Rattle.registers.specs.Registers.{register}
use Rattle.multiply.specs.InternalCycles.{first_above, m_of}
use Rattle.transfer.specs.Block as block
use Rattle.memory.specs.Memory.{limit}
use Rattle.semantics.specs.Duration as duration
use Rattle.stops.specs.Rules as rules
use Rattle.stops.specs.Stops.{due}
use Rattle.refusals.specs.Numbers.{bad_within, bad, refusal}
use Rattle.refusals.specs.Tables.{BadRecords, RefusalOrder, Tables}

bad-records : BadRecords
unfolding bits.field bits.bit reader.read_of condition.passes register first_above m_of block.named_from block.named duration.own_steps duration.stores_counter rules.rule_broken limit due bad_within bad
bad-records = record {
  length = (refl, refl);
  counter = (refl, refl);
  flags = (refl, refl);
  cycles = (refl, refl);
  retired = (refl, refl);
  sums = (refl, refl);
  stop = (refl, refl);
  held = (refl, refl);
  free = (refl, refl);
  word = (refl, refl);
  refill_1 = (refl, refl);
  refill_2 = (refl, refl);
  one_step = (refl, refl);
  shift_steps = (refl, refl);
  load_steps = (refl, refl);
  store_steps = (refl, refl);
  block_load_steps = (refl, refl);
  block_store_steps = (refl, refl);
  multiply_steps_1 = (refl, refl);
  multiply_steps_2 = (refl, refl);
  multiply_steps_4 = (refl, refl);
  load_outside = (refl, refl);
  load_done = (refl, refl);
  store_outside = (refl, refl);
  block_outside = (refl, refl);
  later_outside = (refl, refl);
  last_outside = (refl, refl);
  block_done = (refl, refl);
  multiply_none = (refl, refl);
}

refusal-order : RefusalOrder
unfolding bad refusal
refusal-order = record { budget = refl; far = refl; order = refl }

pub tables : Tables
tables = record { bad = bad-records; refusals = refusal-order }
