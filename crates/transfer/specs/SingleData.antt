-- What a single transfer moves, by the bytes of one memory, and its offsets (paper 01, "Single").
use Rattle.std.specs.Prelude.{◌≡◌, ℕ, Bool, true, false, List, [], ◌∷◌, map, replicate}
use Rattle.word.specs.declared.Operand.TheVariants.{Constant, ShiftByAmount}
use Rattle.word.specs.declared.Single.{Single}
use Rattle.memory.specs.Memory.{Memory, memory_of}
use Rattle.transfer.specs.Single.{offset_of, loaded_value, stored_to}

-- R0 at the address in R1: a byte or a word
abbrev pub transfer : Bool → Bool → Single
transfer byte load = record {
  condition = 14;
  p = true;
  u = true;
  b = byte;
  w = false;
  l = load;
  rn = 1;
  rd = 0;
  offset = Constant 0 0;
}

abbrev pub memory : Memory
memory = memory_of (record { size = 8 }) (0x11 ∷ 0x22 ∷ 0x33 ∷ 0x44 ∷ 0x55 ∷ 0x66 ∷ 0x77 ∷ 0x88 ∷ [])

-- loaded from 0 to 4
abbrev pub loads : Bool → List ℕ
loads byte = map (loaded_value (transfer byte true) memory) (0 ∷ 1 ∷ 2 ∷ 3 ∷ 4 ∷ [])

-- the bytes after a store of AABBCCDD
abbrev pub stored : Bool → ℕ → List ℕ
stored byte address = (stored_to (transfer byte false) memory address 0xAABBCCDD).bytes

-- a value in R2
abbrev pub registers : ℕ → List ℕ
registers r2 = 0 ∷ 0 ∷ r2 ∷ replicate 12 0

-- R2 shifted by a kind and an amount, with C set
abbrev pub shifted_offset : ℕ → ℕ → ℕ → ℕ
shifted_offset r2 kind amount = offset_of (ShiftByAmount 2 kind amount) (registers r2) 2

pub record SingleData : Type 0 where
  -- a loaded word ignores the low two address bits and is rotated right by 8 times them
  pub words : loads false ≡ 0x44332211 ∷ 0x11443322 ∷ 0x22114433 ∷ 0x33221144 ∷ 0x88776655 ∷ []
  -- a loaded byte is zero-extended
  pub bytes : loads true ≡ 0x11 ∷ 0x22 ∷ 0x33 ∷ 0x44 ∷ 0x55 ∷ []
  -- a stored word ignores them, and is not rotated
  pub stored_0 : stored false 0 ≡ 0xDD ∷ 0xCC ∷ 0xBB ∷ 0xAA ∷ 0x55 ∷ 0x66 ∷ 0x77 ∷ 0x88 ∷ []
  pub stored_1 : stored false 1 ≡ stored false 0
  pub stored_3 : stored false 3 ≡ stored false 0
  pub stored_7 : stored false 7 ≡ 0x11 ∷ 0x22 ∷ 0x33 ∷ 0x44 ∷ 0xDD ∷ 0xCC ∷ 0xBB ∷ 0xAA ∷ []
  -- a stored byte is the low one
  pub byte_0 : stored true 0 ≡ 0xDD ∷ 0x22 ∷ 0x33 ∷ 0x44 ∷ 0x55 ∷ 0x66 ∷ 0x77 ∷ 0x88 ∷ []
  pub byte_3 : stored true 3 ≡ 0x11 ∷ 0x22 ∷ 0x33 ∷ 0xDD ∷ 0x55 ∷ 0x66 ∷ 0x77 ∷ 0x88 ∷ []
  -- offsets: 12 bits, which are not rotated
  pub twelve_bits : (g : List ℕ) (f : ℕ) → map (λ r. offset_of (Constant r 0xFE) g f) (0 ∷ 1 ∷ 15 ∷ []) ≡ 0xFE ∷ 0x1FE ∷ 0xFFE ∷ []
  -- else Rm shifted by an amount in the word: LSL 0 and 2, LSR 0 and 1, ASR 0 and 1, ROR 0 through C and 1
  pub lsl : map (shifted_offset 1 0) (0 ∷ 2 ∷ []) ≡ 1 ∷ 4 ∷ []
  pub lsr : map (shifted_offset 0x80000001 1) (0 ∷ 1 ∷ []) ≡ 0 ∷ 0x40000000 ∷ []
  pub asr : map (shifted_offset 0x80000001 2) (0 ∷ 1 ∷ []) ≡ 0xFFFFFFFF ∷ 0xC0000000 ∷ []
  pub ror : map (shifted_offset 0x80000001 3) (0 ∷ 1 ∷ []) ≡ 0xC0000000 ∷ 0xC0000000 ∷ []
