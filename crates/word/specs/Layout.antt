-- Where each field stands in a word (paper 01, "Words and records"; multiply: 02 §1): a table for each class, row by row as the paper has them, and the law that the
-- reader is these tables.
use Rattle.std.specs.Prelude.{ℕ, zero, suc, ◌+◌, ◌-◌, ◌^◌, ◌<◌, ◌≡◌, Bool, true, false, not, ◌&&◌, List, [], ◌∷◌, ◌⊎◌, ◌↔◌, leb, eqb}
use Rattle.bits.specs.Bits.{field, num}
use Rattle.word.specs.Reader.{read_of, is_other}
use Rattle.word.specs.declared.Operand.{Operand}
use Rattle.word.specs.declared.Operand.TheVariants.{Constant, ShiftByAmount, ShiftByRegister}
use Rattle.word.specs.declared.Processing.{Processing}
use Rattle.word.specs.declared.Single.{Single}
use Rattle.word.specs.declared.Block.{Block}
use Rattle.word.specs.declared.Branch.{Branch}
use Rattle.word.specs.declared.Multiply.{Multiply}
use Rattle.word.specs.declared.Instruction.{Instruction}

-- the highest bit, the lowest bit, and what stands there: a field of the record, or fixed bits
pub record Row : Type 0 where
  pub high : ℕ
  pub low : ℕ
  pub what : ℕ

infix 70 ◌‥◌is◌
abbrev pub ◌‥◌is◌ : ℕ → ℕ → ℕ → Row
h ‥ l is v = record { high = h; low = l; what = v }

-- a row of one bit
infix 70 ◌flag◌
abbrev pub ◌flag◌ : ℕ → Bool → Row
k flag b = k ‥ k is num b

-- what I tells
abbrev pub is_constant : Operand → Bool
is_constant (Constant r value) = true
is_constant (ShiftByAmount rm shift amount) = false
is_constant (ShiftByRegister rm shift rs) = false

-- bits 11..0 of the three kinds. Bits 7 and 4 both 1 is Other, so that bit 7 is 0 beside Rs
abbrev pub operand_table : Operand → List Row
operand_table (Constant r value) = 11 ‥ 8 is r ∷ 7 ‥ 0 is value ∷ []
operand_table (ShiftByAmount rm shift amount) = 3 ‥ 0 is rm ∷ 6 ‥ 5 is shift ∷ 4 flag false ∷ 11 ‥ 7 is amount ∷ []
operand_table (ShiftByRegister rm shift rs) = 3 ‥ 0 is rm ∷ 6 ‥ 5 is shift ∷ 4 flag true ∷ 11 ‥ 8 is rs ∷ 7 flag false ∷ []

-- 27..26 = 00, data processing; I=1 is a constant
abbrev pub processing_table : Processing → List Row
processing_table i =
    31 ‥ 28 is i.condition ∷ 27 ‥ 26 is 0b00 ∷ 25 flag is_constant i.operand ∷ 24 ‥ 21 is i.operation ∷ 20 flag i.s ∷
    19 ‥ 16 is i.rn ∷ 15 ‥ 12 is i.rd ∷ operand_table i.operand

-- 01, single; here I=0 is the constant, an offset of 12 bits
abbrev pub single_table : Single → List Row
single_table i =
    31 ‥ 28 is i.condition ∷ 27 ‥ 26 is 0b01 ∷ 25 flag not (is_constant i.offset) ∷
    24 flag i.p ∷ 23 flag i.u ∷ 22 flag i.b ∷ 21 flag i.w ∷ 20 flag i.l ∷
    19 ‥ 16 is i.rn ∷ 15 ‥ 12 is i.rd ∷ operand_table i.offset

-- 27..25 = 100, block
abbrev pub block_table : Block → List Row
block_table i =
    31 ‥ 28 is i.condition ∷ 27 ‥ 25 is 0b100 ∷
    24 flag i.p ∷ 23 flag i.u ∷ 22 flag i.s ∷ 21 flag i.w ∷ 20 flag i.l ∷
    19 ‥ 16 is i.rn ∷ 15 ‥ 0 is i.list ∷ []

-- 101, branch
abbrev pub branch_table : Branch → List Row
branch_table i = 31 ‥ 28 is i.condition ∷ 27 ‥ 25 is 0b101 ∷ 24 flag i.link ∷ 23 ‥ 0 is i.offset ∷ []

-- 000000, then 1001 among the registers, multiply
abbrev pub multiply_table : Multiply → List Row
multiply_table i =
    31 ‥ 28 is i.condition ∷ 27 ‥ 22 is 0b000000 ∷ 21 flag i.accumulate ∷ 20 flag i.s ∷
    19 ‥ 16 is i.rd ∷ 15 ‥ 12 is i.rn ∷ 11 ‥ 8 is i.rs ∷ 7 ‥ 4 is 0b1001 ∷ 3 ‥ 0 is i.rm ∷ []

abbrev pub table_of : Instruction → List Row
table_of (Instruction.Processing i) = processing_table i
table_of (Instruction.Single i) = single_table i
table_of (Instruction.Block i) = block_table i
table_of (Instruction.Branch i) = branch_table i
table_of (Instruction.Multiply i) = multiply_table i
table_of (Instruction.Other word) = 31 ‥ 0 is word ∷ []

-- the offset of a single transfer: 12 bits, else Rm shifted by an amount in the word
abbrev pub is_offset : Operand → Bool
is_offset (Constant r value) = true
is_offset (ShiftByAmount rm shift amount) = true
is_offset (ShiftByRegister rm shift rs) = false

-- the record's class has its operand's kind
abbrev pub has_kind : Instruction → Bool
has_kind (Instruction.Processing i) = true
has_kind (Instruction.Single i) = is_offset i.offset
has_kind (Instruction.Block i) = true
has_kind (Instruction.Branch i) = true
has_kind (Instruction.Multiply i) = true
has_kind (Instruction.Other word) = true

-- a word has at the bits of each row what the row says
abbrev pub Has : ℕ → List Row → Type 0
Has w [] = Unit {0}
Has w (r ∷ rs) = (field w r.low (r.high - r.low + 1) ≡ r.what) × Has w rs

-- a word fits a record's table
abbrev pub Fits : ℕ → Instruction → Type 0
Fits w i = (has_kind i ≡ true) × Has w (table_of i)

-- how many rows have bit k
abbrev pub rows_with : ℕ → List Row → ℕ
rows_with k [] = 0
rows_with k (r ∷ rs) = num (leb r.low k && leb k r.high) + rows_with k rs

-- each bit below n is in one row
abbrev pub once : ℕ → List Row → Bool
once zero rs = true
once (suc n) rs = eqb (rows_with n rs) 1 && once n rs

pub record Layout : Type 0 where
  -- a table has each of the bits 31..0 once
  pub whole : (i : Instruction) → once 32 (table_of i) ≡ true
  -- every word fits the table of the record that it reads as
  pub reads : (w : ℕ) → w < 2 ^ 32 → Fits w (read_of w)
  -- a word reads as the record whose table it fits, unless that record is its Other: only the rest is Other
  pub only : (w : ℕ) → w < 2 ^ 32 → (i : Instruction) → Fits w i → (read_of w ≡ i) ⊎ (i ≡ Instruction.Other w)
  -- a word is Other exactly where it reads as itself
  pub other : (w : ℕ) → w < 2 ^ 32 → (is_other (read_of w) ≡ true) ↔ (read_of w ≡ Instruction.Other w)
