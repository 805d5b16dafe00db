-- The sixteen operations as a table of results (paper 01, "Operations 0-15"), of operands whose low bits, 1100 and 1010, are all the pairs of two bits.
use Rattle.std.specs.Prelude.{◌≡◌, ℕ, Bool, true, false, List, [], ◌∷◌, map}
use Rattle.datapath.specs.declared.Computed.{Computed}
use Rattle.datapath.specs.Alu.{computed, operate}

-- what these operations make of C and A, with the shifter's carry s and the flags C and V
abbrev pub made : Bool → Bool → Bool → List ℕ → List Computed
made s c v ops = map (λ op. operate op 0xC 0xA s c v) ops

pub record Operations : Type 0 where
  -- AND EOR TST TEQ ORR MOV BIC MVN: C from the shifter with V kept
  pub logical : (s c v : Bool) → made s c v (0 ∷ 1 ∷ 8 ∷ 9 ∷ 12 ∷ 13 ∷ 14 ∷ 15 ∷ [])
      ≡ computed 0x8 s v ∷ computed 0x6 s v ∷ computed 0x8 s v ∷ computed 0x6 s v ∷ computed 0xE s v ∷ computed 0xA s v ∷ computed 0x4 s v ∷ computed 0xFFFFFFF5 s v ∷ []
  -- SUB RSB ADD CMP CMN: C and V from the sum; a subtraction's C is 1 when nothing was borrowed
  pub arithmetic : (s c v : Bool) → made s c v (2 ∷ 3 ∷ 4 ∷ 10 ∷ 11 ∷ [])
      ≡ computed 0x2 true false ∷ computed 0xFFFFFFFE false false ∷ computed 0x16 false false ∷ computed 0x2 true false ∷ computed 0x16 false false ∷ []
  -- ADC SBC RSC add C, and take off 1-C more
  pub carry_set : (s v : Bool) → made s true v (5 ∷ 6 ∷ 7 ∷ []) ≡ computed 0x17 false false ∷ computed 0x2 true false ∷ computed 0xFFFFFFFE false false ∷ []
  pub carry_clear : (s v : Bool) → made s false v (5 ∷ 6 ∷ 7 ∷ []) ≡ computed 0x16 false false ∷ computed 0x1 true false ∷ computed 0xFFFFFFFD false false ∷ []
