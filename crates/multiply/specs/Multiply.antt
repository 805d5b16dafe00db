-- What a multiply leaves (paper 02 §1). None of its four fields is 15 (rule 10 of 23), so that what R15 reads as is no matter: 0.
use Rattle.std.specs.Prelude.{ℕ, ◌+◌, ◌*◌, ◌%◌, ◌^◌, List, None}
use Rattle.bits.specs.Choice.{pick}
use Rattle.word.specs.declared.Multiply.{Multiply}
use Rattle.datapath.specs.Alu.{computed, flags_of, carry_of, overflow_of}
use Rattle.registers.specs.Registers.{register, put, Out, out}

-- Rm×Rs, plus an addend, modulo 2^32
abbrev pub product : ℕ → ℕ → ℕ → ℕ
product rm rs addend = (rm * rs + addend) % 2 ^ 32

abbrev pub rm_of : Multiply → List ℕ → ℕ
rm_of i g = register g i.rm 0

abbrev pub rs_of : Multiply → List ℕ → ℕ
rs_of i g = register g i.rs 0

-- Rn with accumulate
abbrev pub addend_of : Multiply → List ℕ → ℕ
addend_of i g = pick i.accumulate (register g i.rn 0) 0

unfoldable pub product_of : Multiply → List ℕ → ℕ
product_of i g = product (rm_of i g) (rs_of i g) (addend_of i g)

-- with S, N and Z come from the result; C and V are kept
unfoldable pub flags_after : Multiply → ℕ → ℕ → ℕ
flags_after i f value = pick i.s (flags_of (computed value (carry_of f) (overflow_of f))) f

unfoldable pub multiplied : Multiply → List ℕ → ℕ → Out
multiplied i g f = out (put g i.rd (product_of i g)) (flags_after i f (product_of i g)) None
