-- Marked multiplies (paper 02 §1), each of a whole instruction word: results, flags and cycles.
use Rattle.std.specs.Prelude.{◌≡◌, ℕ, ◌+◌, ◌*◌, [], ◌∷◌, map, replicate, Some}
use Rattle.bits.specs.Bits.{num}
use Rattle.datapath.specs.Alu.{carry_of}
use Rattle.registers.specs.State.{state}
use Rattle.registers.specs.Registers.{register}
use Rattle.semantics.specs.Perform.{Result, performs}
use Rattle.semantics.specs.Marked.{lent, zeros, Leaves, kept_v}

-- a word at 0, with values in R1, R2 and R3 and 0 in the other registers
abbrev pub multiplied_word : ℕ → ℕ → ℕ → ℕ → ℕ → Result
multiplied_word word r1 r2 r3 f = performs (Some word) (state (0 ∷ r1 ∷ r2 ∷ r3 ∷ replicate 11 0) f 0 (lent zeros))

abbrev pub left_in : ℕ → Result → ℕ
left_in n r = register r.registers n 0

-- 2C+V, which a multiply keeps, beside what N and Z come to
abbrev pub with_CV : ℕ → ℕ → ℕ
with_CV nz f = nz + 2 * num (carry_of f) + kept_v f

-- the cycles of MUL R0, R1, R2 with a value in R2, beside a great one in R1
abbrev pub cycles_for : ℕ → ℕ → ℕ
cycles_for f rs = (multiplied_word 0xE0000291 0xFFFFFFFF rs 0 f).performed.cycles

-- at any flags f
pub record MarkedMultiply : Type 0 where
  -- MUL R0, R1, R2, its unused Rn 3: 7×6, and the flags are kept
  pub mul : (f : ℕ) → Leaves (multiplied_word 0xE0003291 7 6 5 f) 0x2A f
  -- MLA R0, R1, R2, R3: 7×6+5
  pub mla : (f : ℕ) → Leaves (multiplied_word 0xE0203291 7 6 5 f) 0x2F f
  -- modulo 2^32
  pub wraps : (f : ℕ) → Leaves (multiplied_word 0xE0000291 0xFFFFFFFF 0xFFFFFFFF 0 f) 1 f
  pub sum_wraps : (f : ℕ) → Leaves (multiplied_word 0xE0203291 0xFFFFFFFF 0xFFFFFFFF 0xFFFFFFFF f) 0 f
  -- MULS: N, or Z, from the result; what goes beyond it is no carry
  pub negative : (f : ℕ) → Leaves (multiplied_word 0xE0100291 0x80000000 3 0 f) 0x80000000 (with_CV 8 f)
  pub zero : (f : ℕ) → Leaves (multiplied_word 0xE0100291 0x10000 0x10000 0 f) 0 (with_CV 4 f)
  pub positive : (f : ℕ) → Leaves (multiplied_word 0xE0303291 0x10000 0x10000 5 f) 5 (with_CV 0 f)
  -- Rd=Rs: MUL R2, R1, R2; the cycles are those of Rs before it
  pub rd_rs : (f : ℕ) → left_in 2 (multiplied_word 0xE0020291 0x10000 6 0 f) ≡ 0x60000
  pub rd_rs_cycles : (f : ℕ) → (multiplied_word 0xE0020291 0x10000 6 0 f).performed.cycles ≡ 3
  -- Rd=Rn: MLA R3, R1, R2, R3
  pub rd_rn : (f : ℕ) → left_in 3 (multiplied_word 0xE0233291 7 6 5 f) ≡ 0x2F
  -- 1+m, at both ends of each m
  pub least : (f : ℕ)
      → map (cycles_for f) (0 ∷ 2 ∷ 8 ∷ 0x20 ∷ 0x80 ∷ 0x200 ∷ 0x800 ∷ 0x2000 ∷ 0x8000 ∷ 0x20000 ∷ 0x80000 ∷ 0x200000 ∷ 0x800000 ∷ 0x2000000 ∷ 0x8000000 ∷ 0x20000000 ∷ [])
      ≡ 2 ∷ 3 ∷ 4 ∷ 5 ∷ 6 ∷ 7 ∷ 8 ∷ 9 ∷ 10 ∷ 11 ∷ 12 ∷ 13 ∷ 14 ∷ 15 ∷ 16 ∷ 17 ∷ []
  pub greatest : (f : ℕ)
      → map (cycles_for f) (1 ∷ 7 ∷ 0x1F ∷ 0x7F ∷ 0x1FF ∷ 0x7FF ∷ 0x1FFF ∷ 0x7FFF ∷ 0x1FFFF ∷ 0x7FFFF ∷ 0x1FFFFF ∷ 0x7FFFFF ∷ 0x1FFFFFF ∷ 0x7FFFFFF ∷ 0x1FFFFFFF ∷ 0xFFFFFFFF ∷ [])
      ≡ 2 ∷ 3 ∷ 4 ∷ 5 ∷ 6 ∷ 7 ∷ 8 ∷ 9 ∷ 10 ∷ 11 ∷ 12 ∷ 13 ∷ 14 ∷ 15 ∷ 16 ∷ 17 ∷ []
