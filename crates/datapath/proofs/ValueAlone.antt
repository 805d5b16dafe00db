-- The value of a shift by register and of a constant is the same at any C, and an operation's at any carry of the shifter and any V.
-- Assumes nothing.
use Rattle.std.proofs.Common.{◌≡◌, ℕ, Bool, false, sym, ◌∙◌, arith}
use lib.ListN.{get_or-map}
use Rattle.datapath.specs.Shifter.{by_register, constant}
use Rattle.datapath.specs.declared.Computed.{Computed}
use Rattle.datapath.specs.Alu.{computed, inverted, results, operate}

pub by_register_value : (kind v rs : ℕ) (carry : Bool) → (by_register kind v rs carry).value ≡ (by_register kind v rs false).value
unfolding by_register
by_register_value kind v rs carry = grind arith

pub constant_value : (r v : ℕ) (carry : Bool) → (constant r v carry).value ≡ (constant r v false).value
unfolding constant
constant_value r v carry = grind arith

pub operate_value : (op a b : ℕ) (s c v : Bool) → (operate op a b s c v).value ≡ (operate op a b false c false).value
unfolding operate
operate_value op a b s c v =
    let value = λ (r : Computed). r.value in
    let last = inverted b in
    sym (get_or-map value (results a b s c v) op (computed last s v)) ∙ get_or-map value (results a b false c false) op (computed last false false)
