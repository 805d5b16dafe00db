-- The ALU: the sixteen operations, and the flags they leave with S (paper 01, "Operations 0-15").
use Rattle.std.specs.Prelude.{ℕ, ◌+◌, ◌-◌, ◌*◌, ◌%◌, ◌^◌, Bool, true, false, not, ◌&&◌, List, [], ◌∷◌, ◌==◌, bit_and, bit_or, bit_xor, nat_le, nat_lt, slice_index_or}
use Rattle.bits.specs.Choice.{same}
use Rattle.bits.specs.Bits.{bit, num}
use Rattle.datapath.specs.declared.Computed.{Computed}
use Rattle.datapath.specs.declared.alu.Operation.{Operation}
use Rattle.datapath.specs.declared.alu.Operation.TheVariants.{And, Eor, Sub, Rsb, Add, Adc, Sbc, Rsc, Tst, Teq, Cmp, Cmn, Orr, Mov, Bic, Mvn}

-- a result, and the C and V that go with it into the flags
abbrev pub computed : ℕ → Bool → Bool → Computed
computed r c v = record { value = r; carry = c; overflow = v }

-- V of a sum r: the signs of a and b are alike, and that of r is another
abbrev pub sum_overflows : ℕ → ℕ → ℕ → Bool
sum_overflows a b r = same (bit a 31) (bit b 31) && not (same (bit r 31) (bit a 31))

-- V of a difference r: the signs of a and b differ, and that of r is not a's
abbrev pub difference_overflows : ℕ → ℕ → ℕ → Bool
difference_overflows a b r = not (same (bit a 31) (bit b 31)) && not (same (bit r 31) (bit a 31))

-- a + b, and 1 more where c is set; C is the carry out of bit 31
unfoldable pub sum : ℕ → ℕ → Bool → Computed
sum a b c =
    let whole = a + b + num c in
    computed (whole % 2 ^ 32) (nat_le (2 ^ 32) whole) (sum_overflows a b (whole % 2 ^ 32))

-- a - b, and 1 less where c is clear; C is 1 when nothing was borrowed
unfoldable pub difference : ℕ → ℕ → Bool → Computed
difference a b c =
    let taken = b + num (not c) in
    let r = (a + 2 ^ 32 - taken) % 2 ^ 32 in
    computed r (nat_le taken a) (difference_overflows a b r)

-- the operations' numbers, bits 24..21 of a word
abbrev pub operation_number : Operation → ℕ
operation_number And = 0
operation_number Eor = 1
operation_number Sub = 2
operation_number Rsb = 3
operation_number Add = 4
operation_number Adc = 5
operation_number Sbc = 6
operation_number Rsc = 7
operation_number Tst = 8
operation_number Teq = 9
operation_number Cmp = 10
operation_number Cmn = 11
operation_number Orr = 12
operation_number Mov = 13
operation_number Bic = 14
operation_number Mvn = 15

-- every bit the other way
abbrev pub inverted : ℕ → ℕ
inverted a = 2 ^ 32 - 1 - a

-- the results of the sixteen operations in order, on Rn's value a and the operand b, with the shifter's carry s and the flags C and V:
-- logical operations take C from the shifter and keep V
abbrev pub results : ℕ → ℕ → Bool → Bool → Bool → List Computed
results a b s c v =
    computed (bit_and a b) s v ∷  -- AND
    computed (bit_xor a b) s v ∷  -- EOR
    difference a b true ∷  -- SUB
    difference b a true ∷  -- RSB
    sum a b false ∷  -- ADD
    sum a b c ∷  -- ADC
    difference a b c ∷  -- SBC
    difference b a c ∷  -- RSC
    computed (bit_and a b) s v ∷  -- TST
    computed (bit_xor a b) s v ∷  -- TEQ
    difference a b true ∷  -- CMP
    sum a b false ∷  -- CMN
    computed (bit_or a b) s v ∷  -- ORR
    computed b s v ∷  -- MOV
    computed (bit_and a (inverted b)) s v ∷  -- BIC
    computed (inverted b) s v ∷ []  -- MVN

-- what operation op makes; above 15 it is read as MVN
unfoldable pub operate : ℕ → ℕ → ℕ → Bool → Bool → Bool → Computed
operate op a b s c v = slice_index_or (results a b s c v) op (computed (inverted b) s v)

-- TST to CMN store no result
abbrev pub stores_result : ℕ → Bool
stores_result op = not (nat_le 8 op && nat_lt op 12)

-- the flags as one number, 8N+4Z+2C+V
unfoldable pub flags_of : Computed → ℕ
flags_of r = 8 * num (bit r.value 31) + 4 * num (r.value == 0) + 2 * num r.carry + num r.overflow

-- C and V of the flags
abbrev pub carry_of : ℕ → Bool
carry_of flags = bit flags 1

abbrev pub overflow_of : ℕ → Bool
overflow_of flags = bit flags 0
