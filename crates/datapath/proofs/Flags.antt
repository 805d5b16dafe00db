-- The laws of flags.
-- Assumes nothing.
use Rattle.std.proofs.Common.{◌≡◌, ◌+◌, ◌*◌, ◌/◌, ◌%◌, ◌^◌, ◌<◌, ◌≤◌, Bool, true, false, eqb, arith}
use Rattle.bits.specs.Bits.{field, bit, num}
use Rattle.bits.proofs.Fields.{num-bit}
use Rattle.datapath.specs.declared.Computed.{Computed}
use Rattle.datapath.specs.Alu.{flags_of}

pub num-le : (b : Bool) → num b ≤ 1
num-le true = omega arith
num-le false = omega arith

pub flags-lt : (r : Computed) → flags_of r < 16
unfolding flags_of
flags-lt r =
    omega (arith, num-le (bit r.value 31), num-le (eqb r.value 0), num-le r.carry, num-le r.overflow)

-- N and Z of the flags of a result
pub sign_of : (r : Computed) → r.value < 2 ^ 32 → flags_of r / 8 ≡ r.value / 2 ^ 31
unfolding flags_of field
sign_of r h = omega (arith, num-bit r.value 31, num-le (eqb r.value 0), num-le r.carry, num-le r.overflow)

pub zero_of : (r : Computed) → flags_of r / 4 % 2 ≡ num (eqb r.value 0)
unfolding flags_of
zero_of r = omega (arith, num-le (bit r.value 31), num-le (eqb r.value 0), num-le r.carry, num-le r.overflow)

-- and its C and V
pub carries-of : (r : Computed) → flags_of r % 4 ≡ 2 * num r.carry + num r.overflow
unfolding flags_of
carries-of r = omega (arith, num-le (bit r.value 31), num-le (eqb r.value 0), num-le r.carry, num-le r.overflow)
