-- The shifts by arithmetic and by bits, at every amount: the definitions take 32 and more apart.
use Rattle.std.specs.Prelude.{◌≡◌, ℕ, zero, suc, ◌+◌, ◌*◌, ◌/◌, ◌%◌, ◌^◌, ◌<◌, Bool}
use Rattle.std.specs.Int.Signed.{shr_z}
use Rattle.bits.specs.Bits.{bit}
use Rattle.datapath.specs.declared.Shifted.{Shifted}
use Rattle.datapath.specs.Shifter.{shifted, lsl, lsr, asr, ror, shift, constant}
use Rattle.datapath.specs.Signed.{signed_value}

-- the value that n places leave: with none, v itself
abbrev pub after : (ℕ → ℕ → Shifted) → ℕ → ℕ → ℕ
after by v zero = v
after by v (suc n) = (by v (suc n)).value

pub record Shifts : Type 0 where
  -- every result is a word
  pub words : (kind v n : ℕ) → v < 2 ^ 32 → (shift kind v n).value < 2 ^ 32
  -- LSL multiplies by 2^n, modulo 2^32
  pub lsl_multiplies : (v n : ℕ) → (lsl v n).value ≡ v * 2 ^ n % 2 ^ 32
  -- LSR divides by 2^n
  pub lsr_divides : (v n : ℕ) → v < 2 ^ 32 → (lsr v n).value ≡ v / 2 ^ n
  -- ASR divides the signed value by 2^n, rounded down
  pub asr_divides : (v n : ℕ) → v < 2 ^ 32 → signed_value (asr v n).value ≡ shr_z (signed_value v) (2 ^ n)
  -- ROR: bit j of the result is bit n + j, modulo 32
  pub ror_bit : (v n j : ℕ) → v < 2 ^ 32 → j < 32 → bit (ror v n).value j ≡ bit v ((n + j) % 32)
  -- the carry is the last bit moved out: the end bit of what one place fewer leaves, bit 31 to the left
  pub lsl_carry : (v n : ℕ) → v < 2 ^ 32 → (lsl v (suc n)).carry ≡ bit (after lsl v n) 31
  -- and bit 0 to the right
  pub lsr_carry : (v n : ℕ) → v < 2 ^ 32 → (lsr v (suc n)).carry ≡ bit (after lsr v n) 0
  pub asr_carry : (v n : ℕ) → v < 2 ^ 32 → (asr v (suc n)).carry ≡ bit (after asr v n) 0
  pub ror_carry : (v n : ℕ) → v < 2 ^ 32 → (ror v (suc n)).carry ≡ bit (after ror v n) 0
  -- a multiple of 32 keeps the value, carry bit 31
  pub ror_whole : (v n : ℕ) → n % 32 ≡ 0 → ror v n ≡ shifted v (bit v 31)
  -- a constant with r is rotated right by 2r; r > 0 carries result bit 31
  pub constant_bit : (r v j : ℕ) (c : Bool) → v < 2 ^ 32 → j < 32 → bit (constant r v c).value j ≡ bit v ((2 * r + j) % 32)
  pub constant_carry : (r v : ℕ) (c : Bool) → 0 < r → (constant r v c).carry ≡ bit (constant r v c).value 31
