-- The paragraph on shifts as a table of results (paper 01, "Shifts"): each kind by amounts in the word, by a register's values, and constants.
use Rattle.std.specs.Prelude.{◌≡◌, ℕ, ◌+◌, ◌*◌, ◌^◌, Bool, true, false, List, [], ◌∷◌, map}
use Rattle.bits.specs.Bits.{num}
use Rattle.datapath.specs.declared.Shifted.{Shifted}
use Rattle.datapath.specs.Shifter.{shifted, by_amount, by_register, constant}

-- the value that is shifted
abbrev pub before : ℕ
before = 0x80000003

-- shifted by each of these amounts in the word
abbrev pub in_word : ℕ → Bool → List ℕ → List Shifted
in_word kind c amounts = map (λ n. by_amount kind before n c) amounts

-- shifted by each of these values of Rs
abbrev pub by : ℕ → Bool → List ℕ → List Shifted
by kind c values = map (λ rs. by_register kind before rs c) values

-- at any C
pub record ShiftTable : Type 0 where
  -- by 0, 1 and 31 in the word. LSL 0 keeps value and C
  pub lsl : (c : Bool) → in_word 0 c (0 ∷ 1 ∷ 31 ∷ []) ≡ shifted before c ∷ shifted 6 true ∷ shifted 0x80000000 true ∷ []
  -- LSR 0 and ASR 0 mean 32
  pub lsr : (c : Bool) → in_word 1 c (0 ∷ 1 ∷ 31 ∷ []) ≡ shifted 0 true ∷ shifted 0x40000001 true ∷ shifted 1 false ∷ []
  pub asr : (c : Bool) → in_word 2 c (0 ∷ 1 ∷ 31 ∷ []) ≡ shifted 0xFFFFFFFF true ∷ shifted 0xC0000001 true ∷ shifted 0xFFFFFFFF false ∷ []
  -- ROR 0 means one place right through C
  pub ror : (c : Bool) → in_word 3 c (0 ∷ 1 ∷ 31 ∷ []) ≡ shifted (0x40000001 + num c * 2 ^ 31) true ∷ shifted 0xC0000001 true ∷ shifted 7 false ∷ []
  -- by register the amount is Rs's low byte: 0 keeps value and C
  pub kept : (kind : ℕ) (c : Bool) → by kind c (0 ∷ 0x100 ∷ 0xFFFFFF00 ∷ []) ≡ shifted before c ∷ shifted before c ∷ shifted before c ∷ []
  -- Rs=101 moves by 1, as an amount in the word does
  pub once : (c : Bool) → map (λ kind. by_register kind before 0x101 c) (0 ∷ 1 ∷ 2 ∷ 3 ∷ [])
      ≡ shifted 6 true ∷ shifted 0x40000001 true ∷ shifted 0xC0000001 true ∷ shifted 0xC0000001 true ∷ []
  -- LSL and LSR by 32 give 0, with carry bit 0 and bit 31; above 32 both give 0, carry 0
  pub lsl_far : (c : Bool) → by 0 c (32 ∷ 33 ∷ 128 ∷ 255 ∷ []) ≡ shifted 0 true ∷ shifted 0 false ∷ shifted 0 false ∷ shifted 0 false ∷ []
  pub lsr_far : (c : Bool) → by 1 c (32 ∷ 33 ∷ 128 ∷ 255 ∷ []) ≡ shifted 0 true ∷ shifted 0 false ∷ shifted 0 false ∷ shifted 0 false ∷ []
  -- ASR from 32 gives all sign, carry bit 31
  pub asr_far : (c : Bool) → by 2 c (32 ∷ 33 ∷ 255 ∷ []) ≡ shifted 0xFFFFFFFF true ∷ shifted 0xFFFFFFFF true ∷ shifted 0xFFFFFFFF true ∷ []
  pub asr_plus : (c : Bool) → by_register 2 0x40000000 32 c ≡ shifted 0 false
  -- ROR takes the amount modulo 32, and a nonzero multiple of 32 keeps the value, carry bit 31
  pub ror_far : (c : Bool) → by 3 c (32 ∷ 33 ∷ 64 ∷ 255 ∷ []) ≡ shifted before true ∷ shifted 0xC0000001 true ∷ shifted before true ∷ shifted 7 false ∷ []
  -- constants: r=0 keeps C; r>0 carries result bit 31, of 0 too
  pub constants : (c : Bool) → constant 0 0xFF c ∷ constant 1 3 c ∷ constant 1 0 c ∷ constant 8 0xFF c ∷ constant 15 0xFF c ∷ []
      ≡ shifted 0xFF c ∷ shifted 0xC0000000 true ∷ shifted 0 false ∷ shifted 0xFF0000 false ∷ shifted 0x3FC false ∷ []
