-- The marked values hold, by computation on the definitions.
-- Assumes nothing.
use Rattle.std.proofs.Common.{refl}
use Rattle.bits.specs.Bits.{field, bit}
use Rattle.word.specs.Reader.{read_of}
use Rattle.condition.specs.Condition.{passes}
use Rattle.datapath.specs.Shifter.{rotated, lsl, lsr, ror, shift, by_register, by_amount, constant}
use Rattle.datapath.specs.Alu.{sum, difference, operate, flags_of}
use Rattle.datapath.specs.Counter.{ahead, r15_word}
use Rattle.memory.specs.Bytes.{holds_word, word_in, with_word}
use Rattle.memory.specs.Memory.{place, limit}
use Rattle.registers.specs.Registers.{register, put, arrives}
use Rattle.processing.specs.Processing.{operand_of, computed_of, flags_after, stored, processed}
use Rattle.transfer.specs.Single as single
use Rattle.transfer.specs.Single.{offset_of, address_of, loaded_value, stored_value, stored_to}
use Rattle.transfer.specs.Block.{named_from, named, changed_base, lowest_address, with_base, loads, stores, stores_all}
use Rattle.semantics.specs.Branch.{branched}
use Rattle.stops.specs.Rules.{rule_broken}
use Rattle.stops.specs.Moves.{moves_of}
use Rattle.stops.specs.Walk.{walk}
use Rattle.stops.specs.Stops.{due, stop_of}
use Rattle.semantics.specs.Effect.{load_effect, store_effect, block_load_effect, block_store_effect, effect_of}
use Rattle.semantics.specs.Duration.{own_steps}
use Rattle.semantics.specs.Perform.{executed, performs}
use Rattle.semantics.specs.Marked.{Marked}

pub marked : Marked
unfolding field bit read_of passes rotated lsl lsr ror shift by_register by_amount constant sum difference operate flags_of operand_of computed_of flags_after stored processed ahead r15_word holds_word word_in with_word place limit register put arrives offset_of address_of loaded_value stored_value stored_to single.changed_base single.with_base named_from named changed_base lowest_address with_base loads stores stores_all branched load_effect store_effect block_load_effect block_store_effect effect_of own_steps rule_broken moves_of walk due stop_of executed performs
marked = record {
  subs_equal = λ f. record { result = refl; flags = refl };
  subs_borrow = λ f. record { result = refl; flags = refl };
  subs_overflow = λ f. record { result = refl; flags = refl };
  adds_overflow = λ f. record { result = refl; flags = refl };
  lsr_0 = λ f. record { result = refl; flags = refl };
  ror_0 = λ f c. record { result = rw c; flags = rw c };
  lsl_20 = λ f. record { result = refl; flags = refl };
  lsl_21 = λ f. record { result = refl; flags = refl };
  constant_4FF = λ f. record { result = refl; flags = refl };
  load_1 = λ f. refl;
  post_indexed = λ f. refl;
  lowest_base = λ f. refl;
  later_base = λ f. refl;
  link = refl;
  stored = refl;
  block_stored = refl;
  cycles = λ f. refl;
  skipped = λ f z. rw z;
}
