-- How a record is written, and what is refused with 5 (paper 01, "Words and records" and the numbers).
use Rattle.std.specs.Prelude.{ℕ, Bool, true, false, List, [], Result, Ok, Err}
use Rattle.bits.specs.Bits.{num}
use Rattle.writer.specs.Fields.{allow, packed, Field, ◌⟨◌⟩◌}
use Rattle.word.specs.Reader.{read_of, is_other}
use Rattle.word.specs.declared.Operand.{Operand}
use Rattle.word.specs.declared.Operand.TheVariants.{Constant, ShiftByAmount, ShiftByRegister}
use Rattle.word.specs.declared.Instruction.{Instruction}
use Rattle.writer.specs.declared.NoWord.{NoWord}

-- bits 11..0
abbrev pub operand_fields : Operand → List Field
operand_fields (Constant rotate value) = rotate ⟨ 4 ⟩ value ⟨ 8 ⟩ []
operand_fields (ShiftByAmount rm shift amount) = amount ⟨ 5 ⟩ shift ⟨ 2 ⟩ 0 ⟨ 1 ⟩ rm ⟨ 4 ⟩ []
operand_fields (ShiftByRegister rm shift rs) = rs ⟨ 4 ⟩ 0 ⟨ 1 ⟩ shift ⟨ 2 ⟩ 1 ⟨ 1 ⟩ rm ⟨ 4 ⟩ []

-- bits 27..25, whose lowest is I
abbrev pub processing_class : Operand → ℕ
processing_class (Constant rotate value) = 1
processing_class (ShiftByAmount rm shift amount) = 0
processing_class (ShiftByRegister rm shift rs) = 0

abbrev pub single_class : Operand → ℕ
single_class (Constant rotate value) = 2
single_class (ShiftByAmount rm shift amount) = 3
single_class (ShiftByRegister rm shift rs) = 3

-- the operand kinds that a single transfer has
abbrev pub single_has : Operand → Bool
single_has (Constant rotate value) = true
single_has (ShiftByAmount rm shift amount) = true
single_has (ShiftByRegister rm shift rs) = false

-- the 32 bits of each class
abbrev pub fields_of : Instruction → List Field
fields_of (Instruction.Processing i) =
    i.condition ⟨ 4 ⟩ processing_class i.operand ⟨ 3 ⟩ i.operation ⟨ 4 ⟩ num i.s ⟨ 1 ⟩ i.rn ⟨ 4 ⟩ i.rd ⟨ 4 ⟩
    operand_fields i.operand
fields_of (Instruction.Single i) =
    i.condition ⟨ 4 ⟩ single_class i.offset ⟨ 3 ⟩ num i.p ⟨ 1 ⟩ num i.u ⟨ 1 ⟩ num i.b ⟨ 1 ⟩ num i.w ⟨ 1 ⟩ num i.l ⟨ 1 ⟩
    i.rn ⟨ 4 ⟩ i.rd ⟨ 4 ⟩ operand_fields i.offset
fields_of (Instruction.Block i) =
    i.condition ⟨ 4 ⟩ 4 ⟨ 3 ⟩ num i.p ⟨ 1 ⟩ num i.u ⟨ 1 ⟩ num i.s ⟨ 1 ⟩ num i.w ⟨ 1 ⟩ num i.l ⟨ 1 ⟩ i.rn ⟨ 4 ⟩ i.list ⟨ 16 ⟩ []
fields_of (Instruction.Branch i) = i.condition ⟨ 4 ⟩ 5 ⟨ 3 ⟩ num i.link ⟨ 1 ⟩ i.offset ⟨ 24 ⟩ []
fields_of (Instruction.Multiply i) =
    i.condition ⟨ 4 ⟩ 0b000000 ⟨ 6 ⟩ num i.accumulate ⟨ 1 ⟩ num i.s ⟨ 1 ⟩ i.rd ⟨ 4 ⟩ i.rn ⟨ 4 ⟩ i.rs ⟨ 4 ⟩ 0b1001 ⟨ 4 ⟩ i.rm ⟨ 4 ⟩ []
fields_of (Instruction.Other word) = word ⟨ 32 ⟩ []

-- the class has such a record: a single lacks an operand kind, and an Other holds no word of another class
abbrev pub class_has : Instruction → Bool
class_has (Instruction.Processing i) = true
class_has (Instruction.Single i) = single_has i.offset
class_has (Instruction.Block i) = true
class_has (Instruction.Branch i) = true
class_has (Instruction.Multiply i) = true
class_has (Instruction.Other word) = is_other (read_of word)

-- the word of a record, refused where its class lacks it or a field is too wide
unfoldable pub written : Instruction → Result ℕ NoWord
written i = allow (class_has i) (packed (Ok 0) (fields_of i))

-- the number of a record that no word reads as
abbrev pub no_word_for : ℕ
no_word_for = 5

-- the paper's number and word for a writer's answer: 0 and the word, or 5 and 0
pub record Answer : Type 0 where
  pub number : ℕ
  pub word : ℕ

abbrev pub answer_of : Result ℕ NoWord → Answer
answer_of (Ok w) = record { number = 0; word = w }
answer_of (Err e) = record { number = no_word_for; word = 0 }

abbrev pub write_of : Instruction → Answer
write_of i = answer_of (written i)
