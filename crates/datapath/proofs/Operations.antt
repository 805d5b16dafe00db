-- The table of operations holds, by computation on the definitions.
-- Assumes nothing.
use Rattle.std.proofs.Common.{refl}
use Rattle.bits.specs.Bits.{field, bit}
use Rattle.datapath.specs.Alu.{sum, difference, operate}
use Rattle.datapath.specs.Operations.{Operations}

pub operations : Operations
unfolding field bit sum difference operate
operations = record {
  logical = λ s c v. refl;
  arithmetic = λ s c v. refl;
  carry_set = λ s v. refl;
  carry_clear = λ s v. refl;
}
