-- A word's record by its kind, as an engine goes by it.
-- Assumes nothing.
use Prim.Native.Nat.{ℕ, ◌+◌, ◌*◌, ◌/◌, ◌%◌, ◌^◌}
use mathlib.Core.Path.{◌≡◌, refl, sym, ap, ◌∙◌}
use mathlib.Core.Bool.{Bool, true, false}
use native.Mathlib.Omega.{arith}
use lib.Pow.{shr-shr}
use Rattle.bits.specs.Choice.{pick}
use Rattle.bits.specs.Bits.{field, bit, num}
use Rattle.bits.proofs.Fields.{num-bit}
use Rattle.word.specs.declared.Instruction.{Instruction}
use Rattle.word.specs.declared.Class.{Class}
use Rattle.word.specs.Reader.{constant_of, by_amount_of, by_register_of, processing_operand_of, single_offset_of, processing_of, single_of, block_of, branch_of, multiply_of, is_multiply, classed, kind_by, kind_in, read_of}

-- bits 27..25 as a number
eight : (q : ℕ) → q % 8 ≡ 2 * (q / 2 % 4) + q % 2
eight q = omega arith

four : (r : ℕ) → r % 4 ≡ 2 * (r / 2 % 2) + r % 2
four r = omega arith

class-fields : (w : ℕ) → field w 25 3 ≡ 4 * field w 27 1 + (2 * field w 26 1 + field w 25 1)
unfolding field
class-fields w =
    let low : w / 2 ^ 25 / 2 ≡ w / 2 ^ 26 = shr-shr w 25 1 in
    let high : w / 2 ^ 26 / 2 ≡ w / 2 ^ 27 = shr-shr w 26 1 in
    let two : w / 2 ^ 26 % 4 ≡ 2 * (w / 2 ^ 27 % 2) + w / 2 ^ 26 % 2 = rw (sym high) (four (w / 2 ^ 26)) in
    let three : w / 2 ^ 25 % 8 ≡ 2 * (w / 2 ^ 26 % 4) + w / 2 ^ 25 % 2 = rw (sym low) (eight (w / 2 ^ 25)) in
    three ∙ rw two (omega arith)

class-bits : (w : ℕ) → field w 25 3 ≡ 4 * num (bit w 27) + (2 * num (bit w 26) + num (bit w 25))
class-bits w = rw (num-bit w 27, num-bit w 26, num-bit w 25) (class-fields w)

-- the record of a kind, with bits 25 and 4 for what its operand or offset is
abbrev record_by : ℕ → Bool → Bool → Class → Instruction
record_by w bit25 bit4 Class.Processing =
    Instruction.Processing (processing_of w (pick bit25 (constant_of w) (pick bit4 (by_register_of w) (by_amount_of w))))
record_by w bit25 bit4 Class.Single = Instruction.Single (single_of w (pick bit25 (by_amount_of w) (constant_of w)))
record_by w bit25 bit4 Class.Block = Instruction.Block (block_of w)
record_by w bit25 bit4 Class.Branch = Instruction.Branch (branch_of w)
record_by w bit25 bit4 Class.Multiply = Instruction.Multiply (multiply_of w)
record_by w bit25 bit4 Class.Other = Instruction.Other w

-- the extension space
extended : (w : ℕ) (m : Bool) → pick m (Instruction.Multiply (multiply_of w)) (Instruction.Other w) ≡ record_by w false true (pick m Class.Multiply Class.Other)
extended w true = refl
extended w false = refl

by-class : (w : ℕ) (b27 b26 b25 b4 b7 : Bool) → classed w (4 * num b27 + (2 * num b26 + num b25)) b4 b7 ≡ record_by w b25 b4 (kind_by b27 b26 b25 b4 b7 (is_multiply w))
by-class w true true true b4 b7 = refl
by-class w true true false b4 b7 = refl
by-class w true false true b4 b7 = refl
by-class w true false false b4 b7 = refl
by-class w false true true true true = refl
by-class w false true true true false = refl
by-class w false true true false true = refl
by-class w false true true false false = refl
by-class w false true false b4 b7 = refl
by-class w false false true b4 b7 = refl
by-class w false false false true true = extended w (is_multiply w)
by-class w false false false true false = refl
by-class w false false false false true = refl
by-class w false false false false false = refl

by_kind : (w : ℕ) → read_of w ≡ record_by w (bit w 25) (bit w 4) (kind_in w)
unfolding read_of
by_kind w = rw (class-bits w) (by-class w (bit w 27) (bit w 26) (bit w 25) (bit w 4) _)

-- so what a word of a kind reads as
module _ (w : ℕ) where
  reads : (k : Class) → k ≡ kind_in w → record_by w (bit w 25) (bit w 4) k ≡ read_of w
  reads k e = sym (by_kind w ∙ ap (record_by w (bit w 25) (bit w 4)) (sym e))

  pub reads-processing : Class.Processing ≡ kind_in w → Instruction.Processing (processing_of w (processing_operand_of w)) ≡ read_of w
  reads-processing e = reads Class.Processing e

  pub reads-single : Class.Single ≡ kind_in w → Instruction.Single (single_of w (single_offset_of w)) ≡ read_of w
  reads-single e = reads Class.Single e

  pub reads-block : Class.Block ≡ kind_in w → Instruction.Block (block_of w) ≡ read_of w
  reads-block e = reads Class.Block e

  pub reads-branch : Class.Branch ≡ kind_in w → Instruction.Branch (branch_of w) ≡ read_of w
  reads-branch e = reads Class.Branch e

  pub reads-multiply : Class.Multiply ≡ kind_in w → Instruction.Multiply (multiply_of w) ≡ read_of w
  reads-multiply e = reads Class.Multiply e

  pub reads_other : Class.Other ≡ kind_in w → Instruction.Other w ≡ read_of w
  reads_other e = reads Class.Other e
