-- How a word reads (paper 01, "Words and records"; multiply: 02 §1).
use Rattle.std.specs.Prelude.{ℕ, Bool, true, false, not, ◌&&◌, eqb}
use Rattle.bits.specs.Choice.{pick}
use Rattle.bits.specs.Bits.{field, bit}
use Rattle.word.specs.declared.Operand.{Operand}
use Rattle.word.specs.declared.Operand.TheVariants.{Constant, ShiftByAmount, ShiftByRegister}
use Rattle.word.specs.declared.Processing.{Processing}
use Rattle.word.specs.declared.Single.{Single}
use Rattle.word.specs.declared.Block.{Block}
use Rattle.word.specs.declared.Branch.{Branch}
use Rattle.word.specs.declared.Multiply.{Multiply}
use Rattle.word.specs.declared.Instruction.{Instruction}
use Rattle.word.specs.declared.Class.{Class}

-- bits 11..0 as one of the three kinds: a constant's rotation r and value; Rm, shift and amount; Rm, shift and Rs
abbrev pub constant_of : ℕ → Operand
constant_of w = Constant (field w 8 4) (field w 0 8)

abbrev pub by_amount_of : ℕ → Operand
by_amount_of w = ShiftByAmount (field w 0 4) (field w 5 2) (field w 7 5)

abbrev pub by_register_of : ℕ → Operand
by_register_of w = ShiftByRegister (field w 0 4) (field w 5 2) (field w 8 4)

-- the operand of a processing word, and the offset of a single's, by bits 25 and 4. Bit 25 is I: an operand is a constant where it is set, an
-- offset where it is clear
abbrev pub processing_operand_of : ℕ → Operand
processing_operand_of w = pick (bit w 25) (constant_of w) (pick (bit w 4) (by_register_of w) (by_amount_of w))

abbrev pub single_offset_of : ℕ → Operand
single_offset_of w = pick (bit w 25) (by_amount_of w) (constant_of w)

abbrev pub processing_of : ℕ → Operand → Processing
processing_of w o = record {
  condition = field w 28 4;
  operation = field w 21 4;
  s = bit w 20;
  rn = field w 16 4;
  rd = field w 12 4;
  operand = o;
}

abbrev pub single_of : ℕ → Operand → Single
single_of w o = record {
  condition = field w 28 4;
  p = bit w 24;
  u = bit w 23;
  b = bit w 22;
  w = bit w 21;
  l = bit w 20;
  rn = field w 16 4;
  rd = field w 12 4;
  offset = o;
}

abbrev pub block_of : ℕ → Block
block_of w = record {
  condition = field w 28 4;
  p = bit w 24;
  u = bit w 23;
  s = bit w 22;
  w = bit w 21;
  l = bit w 20;
  rn = field w 16 4;
  list = field w 0 16;
}

-- the offset is kept as its 24 bits
abbrev pub branch_of : ℕ → Branch
branch_of w = record { condition = field w 28 4; link = bit w 24; offset = field w 0 24 }

abbrev pub multiply_of : ℕ → Multiply
multiply_of w = record {
  condition = field w 28 4;
  accumulate = bit w 21;
  s = bit w 20;
  rd = field w 16 4;
  rn = field w 12 4;
  rs = field w 8 4;
  rm = field w 0 4;
}

-- bits 27..22 = 000000 and 7..4 = 1001
abbrev pub is_multiply : ℕ → Bool
is_multiply w = eqb (field w 22 6) 0b000000 && eqb (field w 4 4) 0b1001

-- a word of the extension space: bits 27..25 = 000, bits 7 and 4 set. Multiply and swap stand there, and this core has no swap
abbrev pub extended_of : ℕ → Instruction
extended_of w = pick (is_multiply w) (Instruction.Multiply (multiply_of w)) (Instruction.Other w)

-- a word by its bits 27..25, 4 and 7. Bit 25 is I: a processing operand is a constant where it is set, a single offset where it is clear
abbrev pub classed : ℕ → ℕ → Bool → Bool → Instruction
classed w class bit4 bit7 =
    pick (eqb class 0)
    (pick bit4
    (pick bit7 (extended_of w) (Instruction.Processing (processing_of w (by_register_of w))))
    (Instruction.Processing (processing_of w (by_amount_of w))))
    (pick (eqb class 1) (Instruction.Processing (processing_of w (constant_of w)))
    (pick (eqb class 2) (Instruction.Single (single_of w (constant_of w)))
    (pick (eqb class 3) (pick bit4 (Instruction.Other w) (Instruction.Single (single_of w (by_amount_of w))))
    (pick (eqb class 4) (Instruction.Block (block_of w))
    (pick (eqb class 5) (Instruction.Branch (branch_of w))
    (Instruction.Other w))))))

unfoldable pub read_of : ℕ → Instruction
read_of w = classed w (field w 25 3) (bit w 4) (bit w 7)

-- the class of a word, by its bits 27..25, 4 and 7, and by whether it is a multiply
abbrev pub kind_by : Bool → Bool → Bool → Bool → Bool → Bool → Class
kind_by bit27 bit26 bit25 bit4 bit7 multiply =
    pick bit27
    (pick bit26 Class.Other (pick bit25 Class.Branch Class.Block))
    (pick bit26 (pick (bit25 && bit4) Class.Other Class.Single)
    (pick (not bit25 && (bit4 && bit7)) (pick multiply Class.Multiply Class.Other) Class.Processing))

abbrev pub kind_in : ℕ → Class
kind_in w = kind_by (bit w 27) (bit w 26) (bit w 25) (bit w 4) (bit w 7) (is_multiply w)

abbrev pub is_other : Instruction → Bool
is_other (Instruction.Processing i) = false
is_other (Instruction.Single i) = false
is_other (Instruction.Block i) = false
is_other (Instruction.Branch i) = false
is_other (Instruction.Multiply i) = false
is_other (Instruction.Other word) = true
