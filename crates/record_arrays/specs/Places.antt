-- The layout of a record's array as include/slot_core.h numbers it, name by name: a second road to packing, which unpacking cannot mirror.
-- SLOT_RECORD_RN is record_rn here; compare/header holds the tables to the header.
use Rattle.std.specs.Prelude.{ℕ, ◌≡◌, List, [], ◌∷◌, set, replicate}
use Rattle.bits.specs.Bits.{num}
use Rattle.word.specs.declared.Operand.{Operand}
use Rattle.word.specs.declared.Operand.TheVariants.{Constant, ShiftByAmount, ShiftByRegister}
use Rattle.word.specs.declared.Processing.{Processing}
use Rattle.word.specs.declared.Single.{Single}
use Rattle.word.specs.declared.Instruction.{Instruction}
use Rattle.record_arrays.specs.RecordArray.{record_words}

-- how many words the array has
abbrev pub record_word_count : ℕ
record_word_count = 16

-- the place of each named word: names share a place where no class has both
pub data RecordName : Type 0 where
  record_class : RecordName
  record_condition : RecordName
  record_operation : RecordName
  record_p : RecordName
  record_u : RecordName
  record_b : RecordName
  record_s : RecordName
  record_w : RecordName
  record_accumulate : RecordName
  record_l : RecordName
  record_link : RecordName
  record_rn : RecordName
  record_rd : RecordName
  record_kind : RecordName
  record_rotate : RecordName
  record_value : RecordName
  record_rm : RecordName
  record_shift : RecordName
  record_amount : RecordName
  record_rs : RecordName
  record_list : RecordName
  record_offset : RecordName
  record_word : RecordName

abbrev pub record_place : RecordName → ℕ
record_place record_class = 0
record_place record_condition = 1
record_place record_operation = 2
record_place record_p = 3
record_place record_u = 4
record_place record_b = 5
record_place record_s = 5
record_place record_w = 6
record_place record_accumulate = 6
record_place record_l = 7
record_place record_link = 7
record_place record_rn = 8
record_place record_rd = 9
record_place record_kind = 10
record_place record_rotate = 11
record_place record_value = 12
record_place record_rm = 11
record_place record_shift = 12
record_place record_amount = 13
record_place record_rs = 13
record_place record_list = 14
record_place record_offset = 14
record_place record_word = 14

pub data Class : Type 0 where
  class_processing : Class
  class_single : Class
  class_block : Class
  class_branch : Class
  class_other : Class
  class_multiply : Class

abbrev pub class_number : Class → ℕ
class_number class_processing = 0
class_number class_single = 1
class_number class_block = 2
class_number class_branch = 3
class_number class_other = 4
class_number class_multiply = 5

pub data Kind : Type 0 where
  kind_constant : Kind
  kind_by_amount : Kind
  kind_by_register : Kind

abbrev pub kind_number : Kind → ℕ
kind_number kind_constant = 0
kind_number kind_by_amount = 1
kind_number kind_by_register = 2

pub record Field : Type 0 where
  pub name : RecordName
  pub value : ℕ

abbrev pub is : RecordName → ℕ → Field
is name value = record { name = name; value = value }

abbrev pub operand_fields : Operand → List Field
operand_fields (Constant rotate value) = is record_kind (kind_number kind_constant) ∷ is record_rotate rotate ∷ is record_value value ∷ []
operand_fields (ShiftByAmount rm shift amount) =
    is record_kind (kind_number kind_by_amount) ∷ is record_rm rm ∷ is record_shift shift ∷ is record_amount amount ∷ []
operand_fields (ShiftByRegister rm shift rs) =
    is record_kind (kind_number kind_by_register) ∷ is record_rm rm ∷ is record_shift shift ∷ is record_rs rs ∷ []

abbrev pub processing_fields : Processing → Operand → List Field
processing_fields i operand =
    is record_class (class_number class_processing) ∷ is record_condition i.condition ∷ is record_operation i.operation ∷ is record_s (num i.s)
    ∷ is record_rn i.rn ∷ is record_rd i.rd ∷ operand_fields operand

abbrev pub single_fields : Single → Operand → List Field
single_fields i offset =
    is record_class (class_number class_single) ∷ is record_condition i.condition ∷ is record_p (num i.p) ∷ is record_u (num i.u)
    ∷ is record_b (num i.b) ∷ is record_w (num i.w) ∷ is record_l (num i.l) ∷ is record_rn i.rn ∷ is record_rd i.rd
    ∷ operand_fields offset

-- the fields that each class has
abbrev pub fields : Instruction → List Field
fields (Instruction.Processing i) = processing_fields i i.operand
fields (Instruction.Single i) = single_fields i i.offset
fields (Instruction.Block i) =
    is record_class (class_number class_block) ∷ is record_condition i.condition ∷ is record_p (num i.p) ∷ is record_u (num i.u)
    ∷ is record_s (num i.s) ∷ is record_w (num i.w) ∷ is record_l (num i.l) ∷ is record_rn i.rn ∷ is record_list i.list ∷ []
fields (Instruction.Branch i) =
    is record_class (class_number class_branch) ∷ is record_condition i.condition ∷ is record_link (num i.link) ∷ is record_offset i.offset ∷ []
fields (Instruction.Multiply i) =
    is record_class (class_number class_multiply) ∷ is record_condition i.condition ∷ is record_accumulate (num i.accumulate) ∷ is record_s (num i.s)
    ∷ is record_rd i.rd ∷ is record_rn i.rn ∷ is record_rs i.rs ∷ is record_rm i.rm ∷ []
fields (Instruction.Other word) = is record_class (class_number class_other) ∷ is record_word word ∷ []

-- an array with each field put at its name's place
abbrev pub filled : List Field → List ℕ → List ℕ
filled [] array = array
filled (field ∷ rest) array = filled rest (set array (record_place field.name) field.value)

pub record Layout : Type 0 where
  -- the fields that the record's class has, each at its name's place; the rest is 0
  pub all : (i : Instruction) → record_words i ≡ filled (fields i) (replicate record_word_count 0)
