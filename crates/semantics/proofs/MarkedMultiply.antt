-- The marked multiplies hold, by computation on the definitions.
-- Assumes nothing.
use Rattle.std.proofs.Common.{refl}
use Rattle.bits.specs.Bits.{field, bit}
use Rattle.word.specs.Reader.{read_of}
use Rattle.condition.specs.Condition.{passes}
use Rattle.datapath.specs.Alu.{flags_of}
use Rattle.datapath.specs.Counter.{ahead}
use Rattle.registers.specs.Registers.{register, put}
use Rattle.multiply.specs.InternalCycles.{first_above, m_of}
use Rattle.multiply.specs.Multiply.{product_of, flags_after, multiplied}
use Rattle.stops.specs.Rules.{rule_broken}
use Rattle.stops.specs.Moves.{moves_of}
use Rattle.stops.specs.Walk.{walk}
use Rattle.stops.specs.Stops.{due, stop_of}
use Rattle.semantics.specs.Effect.{effect_of}
use Rattle.semantics.specs.Duration.{own_steps}
use Rattle.semantics.specs.Perform.{executed, performs}
use Rattle.semantics.specs.MarkedMultiply.{MarkedMultiply}

pub marked-multiply : MarkedMultiply
unfolding field bit read_of passes flags_of ahead register put first_above m_of product_of flags_after multiplied effect_of own_steps rule_broken moves_of walk due stop_of executed performs
marked-multiply = record {
  mul = λ f. record { result = refl; flags = refl };
  mla = λ f. record { result = refl; flags = refl };
  wraps = λ f. record { result = refl; flags = refl };
  sum_wraps = λ f. record { result = refl; flags = refl };
  negative = λ f. record { result = refl; flags = refl };
  zero = λ f. record { result = refl; flags = refl };
  positive = λ f. record { result = refl; flags = refl };
  rd_rs = λ f. refl;
  rd_rs_cycles = λ f. refl;
  rd_rn = λ f. refl;
  least = λ f. refl;
  greatest = λ f. refl;
}
