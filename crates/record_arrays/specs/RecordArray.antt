-- A word's record as an array of 16 words, and back: class, condition, operation, P, U, B or S, W or accumulate, L or link, Rn, Rd,
-- the operand's kind and three fields (a multiply's Rm and Rs stand there without a kind), then the list, offset or word, and a 0. What a class
-- lacks is 0.
use Rattle.std.specs.Prelude.{ℕ, zero, suc, Bool, true, ◌&&◌, List, [], ◌∷◌, eqb}
use Rattle.bits.specs.Choice.{pick}
use Rattle.bits.specs.Bits.{num}
use Rattle.word.specs.declared.Operand.{Operand}
use Rattle.word.specs.declared.Operand.TheVariants.{Constant, ShiftByAmount, ShiftByRegister}
use Rattle.word.specs.declared.Processing.{Processing}
use Rattle.word.specs.declared.Single.{Single}
use Rattle.word.specs.declared.Block.{Block}
use Rattle.word.specs.declared.Branch.{Branch}
use Rattle.word.specs.declared.Multiply.{Multiply}
use Rattle.word.specs.declared.Instruction.{Instruction}
use Rattle.record_arrays.specs.declared.Quad.{Quad}
use Rattle.arrays.specs.Words.{at}

abbrev pub quad : ℕ → ℕ → ℕ → ℕ → Quad
quad k a b c = record { kind = k; first = a; second = b; third = c }

-- an operand's kind and its fields; a constant has two
abbrev pub quad_of : Operand → Quad
quad_of (Constant rotate value) = quad 0 rotate value 0
quad_of (ShiftByAmount rm shift amount) = quad 1 rm shift amount
quad_of (ShiftByRegister rm shift rs) = quad 2 rm shift rs

abbrev pub operand_of : Quad → Operand
operand_of q =
    pick (eqb q.kind 0) (Constant q.first q.second)
    (pick (eqb q.kind 1) (ShiftByAmount q.first q.second q.third) (ShiftByRegister q.first q.second q.third))

abbrev pub processing_words : Processing → Quad → List ℕ
processing_words i q =
    0 ∷ i.condition ∷ i.operation ∷ 0 ∷ 0 ∷ num i.s ∷ 0 ∷ 0 ∷ i.rn ∷ i.rd ∷ q.kind ∷ q.first ∷ q.second ∷ q.third ∷ 0 ∷ 0 ∷ []

abbrev pub single_words : Single → Quad → List ℕ
single_words i q =
    1 ∷ i.condition ∷ 0 ∷ num i.p ∷ num i.u ∷ num i.b ∷ num i.w ∷ num i.l ∷ i.rn ∷ i.rd
    ∷ q.kind ∷ q.first ∷ q.second ∷ q.third ∷ 0 ∷ 0 ∷ []

abbrev pub block_words : Block → List ℕ
block_words i =
    2 ∷ i.condition ∷ 0 ∷ num i.p ∷ num i.u ∷ num i.s ∷ num i.w ∷ num i.l ∷ i.rn ∷ 0 ∷ 0 ∷ 0 ∷ 0 ∷ 0 ∷ i.list ∷ 0 ∷ []

abbrev pub branch_words : Branch → List ℕ
branch_words i =
    3 ∷ i.condition ∷ 0 ∷ 0 ∷ 0 ∷ 0 ∷ 0 ∷ num i.link ∷ 0 ∷ 0 ∷ 0 ∷ 0 ∷ 0 ∷ 0 ∷ i.offset ∷ 0 ∷ []

abbrev pub multiply_words : Multiply → List ℕ
multiply_words i =
    5 ∷ i.condition ∷ 0 ∷ 0 ∷ 0 ∷ num i.s ∷ num i.accumulate ∷ 0 ∷ i.rn ∷ i.rd ∷ 0 ∷ i.rm ∷ 0 ∷ i.rs ∷ 0 ∷ 0 ∷ []

unfoldable pub record_words : Instruction → List ℕ
record_words (Instruction.Processing i) = processing_words i (quad_of i.operand)
record_words (Instruction.Single i) = single_words i (quad_of i.offset)
record_words (Instruction.Block i) = block_words i
record_words (Instruction.Branch i) = branch_words i
record_words (Instruction.Multiply i) = multiply_words i
record_words (Instruction.Other word) = 4 ∷ 0 ∷ 0 ∷ 0 ∷ 0 ∷ 0 ∷ 0 ∷ 0 ∷ 0 ∷ 0 ∷ 0 ∷ 0 ∷ 0 ∷ 0 ∷ word ∷ 0 ∷ []

abbrev pub is_one : List ℕ → ℕ → Bool
is_one words n = eqb (at words n) 1

abbrev pub operand_at : List ℕ → Operand
operand_at words = operand_of (quad (at words 10) (at words 11) (at words 12) (at words 13))

abbrev pub processing_of : List ℕ → Processing
processing_of words = record {
  condition = at words 1;
  operation = at words 2;
  s = is_one words 5;
  rn = at words 8;
  rd = at words 9;
  operand = operand_at words;
}

abbrev pub single_of : List ℕ → Single
single_of words = record {
  condition = at words 1;
  p = is_one words 3;
  u = is_one words 4;
  b = is_one words 5;
  w = is_one words 6;
  l = is_one words 7;
  rn = at words 8;
  rd = at words 9;
  offset = operand_at words;
}

abbrev pub block_of : List ℕ → Block
block_of words = record {
  condition = at words 1;
  p = is_one words 3;
  u = is_one words 4;
  s = is_one words 5;
  w = is_one words 6;
  l = is_one words 7;
  rn = at words 8;
  list = at words 14;
}

abbrev pub branch_of : List ℕ → Branch
branch_of words = record { condition = at words 1; link = is_one words 7; offset = at words 14 }

abbrev pub multiply_of : List ℕ → Multiply
multiply_of words = record {
  condition = at words 1;
  accumulate = is_one words 6;
  s = is_one words 5;
  rd = at words 9;
  rn = at words 8;
  rs = at words 13;
  rm = at words 11;
}

unfoldable pub record_of : List ℕ → Instruction
record_of words =
    pick (eqb (at words 0) 0) (Instruction.Processing (processing_of words))
    (pick (eqb (at words 0) 1) (Instruction.Single (single_of words))
    (pick (eqb (at words 0) 2) (Instruction.Block (block_of words))
    (pick (eqb (at words 0) 3) (Instruction.Branch (branch_of words))
    (pick (eqb (at words 0) 5) (Instruction.Multiply (multiply_of words)) (Instruction.Other (at words 14))))))

-- the first n words of two arrays are the same
unfoldable pub same : ℕ → List ℕ → List ℕ → Bool
same zero a b = true
same (suc n) a b = same n a b && eqb (at a n) (at b n)

-- an array stands for a record where it is that record's array: no other class or kind, no flag above 1, nothing in an unused word
unfoldable pub stands_for_record : List ℕ → Bool
stands_for_record words = same 16 words (record_words (record_of words))
