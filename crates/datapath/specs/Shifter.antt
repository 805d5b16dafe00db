-- The shifter: a value shifted, and its carry out (paper 01, "Shifts").
use Rattle.std.specs.Prelude.{ℕ, ◌+◌, ◌-◌, ◌*◌, ◌/◌, ◌%◌, ◌^◌, Bool, false, [], ◌∷◌, ◌==◌, nat_le, nat_lt, slice_index_or}
use Rattle.bits.specs.Choice.{pick}
use Rattle.bits.specs.Bits.{bit, num}
use Rattle.datapath.specs.declared.Shifted.{Shifted}
use Rattle.datapath.specs.declared.shifter.Shift.{Shift}
use Rattle.datapath.specs.declared.shifter.Shift.TheVariants.{Lsl, Lsr, Asr, Ror}

abbrev pub shifted : ℕ → Bool → Shifted
shifted v c = record { value = v; carry = c }

-- v rotated right by n places, which count modulo 32
unfoldable pub rotated : ℕ → ℕ → ℕ
rotated v n = let places = n % 32 in v / 2 ^ places + v % 2 ^ places * 2 ^ (32 - places)

-- v moved right by n places, at most 32, which its sign fills
unfoldable pub signed : ℕ → ℕ → ℕ
signed v n = v / 2 ^ n + num (bit v 31) * (2 ^ 32 - 2 ^ (32 - n))

-- by an amount from 1 on: the last bit moved out is the carry, and above 32 all is 0
unfoldable pub lsl : ℕ → ℕ → Shifted
lsl v n = pick (nat_le n 32) (shifted (v * 2 ^ n % 2 ^ 32) (bit v (32 - n))) (shifted 0 false)

unfoldable pub lsr : ℕ → ℕ → Shifted
lsr v n = pick (nat_le n 32) (shifted (v / 2 ^ n) (bit v (n - 1))) (shifted 0 false)

-- from 32 on all sign, with carry bit 31
unfoldable pub asr : ℕ → ℕ → Shifted
asr v n = pick (nat_lt n 32) (shifted (signed v n) (bit v (n - 1))) (shifted (signed v 32) (bit v 31))

-- the carry is bit 31 of the result, also where a multiple of 32 keeps the value
unfoldable pub ror : ℕ → ℕ → Shifted
ror v n = shifted (rotated v n) (bit (rotated v n) 31)

-- the kinds' numbers, bits 6..5 of a word
abbrev pub shift_number : Shift → ℕ
shift_number Lsl = 0
shift_number Lsr = 1
shift_number Asr = 2
shift_number Ror = 3

-- bits 6..5 of a word: LSL, LSR, ASR, and from 3 on ROR
unfoldable pub shift : ℕ → ℕ → ℕ → Shifted
shift kind v n = slice_index_or (lsl v n ∷ lsr v n ∷ asr v n ∷ []) kind (ror v n)

-- by register: the amount is the low byte of Rs, and 0 keeps value and C
unfoldable pub by_register : ℕ → ℕ → ℕ → Bool → Shifted
by_register kind v rs c = pick (rs % 256 == 0) (shifted v c) (shift kind v (rs % 256))

-- amount 0 in the word: LSL keeps value and C, LSR and ASR mean 32, ROR means one place right through C
abbrev pub zero_amount : ℕ → ℕ → Bool → Shifted
zero_amount kind v c = slice_index_or (shifted v c ∷ lsr v 32 ∷ asr v 32 ∷ []) kind (shifted (v / 2 + num c * 2 ^ 31) (bit v 0))

unfoldable pub by_amount : ℕ → ℕ → ℕ → Bool → Shifted
by_amount kind v amount c = pick (amount == 0) (zero_amount kind v c) (shift kind v amount)

-- a constant: rotated right by 2r; r = 0 keeps C
unfoldable pub constant : ℕ → ℕ → Bool → Shifted
constant r v c = pick (r == 0) (shifted v c) (ror v (2 * r))
