-- The layout of a record's array, proved by computing. Assumes nothing.
use mathlib.Core.Path.{◌≡◌, refl}
use lib.ListN.{replicate}
use Rattle.word.specs.declared.Operand.{Operand}
use Rattle.word.specs.declared.Operand.TheVariants.{Constant, ShiftByAmount, ShiftByRegister}
use Rattle.word.specs.declared.Processing.{Processing}
use Rattle.word.specs.declared.Single.{Single}
use Rattle.word.specs.declared.Instruction.{Instruction}
use Rattle.record_arrays.specs.RecordArray.{quad_of, processing_words, single_words, record_words}
use Rattle.record_arrays.specs.Places.{Layout, record_word_count, processing_fields, single_fields, fields, filled}

processing : (i : Processing) (o : Operand) → processing_words i (quad_of o) ≡ filled (processing_fields i o) (replicate record_word_count 0)
processing i (Constant rotate value) = refl
processing i (ShiftByAmount rm shift amount) = refl
processing i (ShiftByRegister rm shift rs) = refl

single : (i : Single) (o : Operand) → single_words i (quad_of o) ≡ filled (single_fields i o) (replicate record_word_count 0)
single i (Constant rotate value) = refl
single i (ShiftByAmount rm shift amount) = refl
single i (ShiftByRegister rm shift rs) = refl

all : (i : Instruction) → record_words i ≡ filled (fields i) (replicate record_word_count 0)
unfolding record_words
all (Instruction.Processing i) = processing i i.operand
all (Instruction.Single i) = single i i.offset
all (Instruction.Block i) = refl
all (Instruction.Branch i) = refl
all (Instruction.Multiply i) = refl
all (Instruction.Other word) = refl

pub laid_out : Layout
laid_out = record { all = all }
