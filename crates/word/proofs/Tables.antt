-- The layout, proved: a word fits the table of what it reads as, and reads as what its table says.
-- Assumes nothing.
use mathlib.Core.Path.{◌≡◌, refl, sym, ap, ◌∙◌}
use mathlib.Core.Bool.{Bool, true, false, and-eq-true_iff}
use mathlib.Core.Logic.{◌⊎◌, inl, inr}
use Prim.Native.Nat.{ℕ, zero, suc, ◌+◌, ◌*◌, ◌/◌, ◌%◌, ◌^◌, ◌<◌}
use native.Mathlib.Nat.{div-one, mod-eq_of_lt}
use native.Mathlib.Omega.{arith}
use lib.Pow.{shr-shr}
use borrow.Author.Tests.{eqb-true}
use Rattle.bits.specs.Choice.{pick}
use Rattle.bits.specs.Bits.{field, bit, num}
use Rattle.bits.proofs.Fields.{field_lt, num-bit, bit-num}
use Rattle.word.specs.Reader.{read_of, is_multiply, multiply_of, classed, is_other}
use Rattle.word.specs.Layout.{Layout, table_of, Has, Fits, once}
use Rattle.word.specs.declared.Operand.{Operand}
use Rattle.word.specs.declared.Operand.TheVariants.{Constant, ShiftByAmount, ShiftByRegister}
use Rattle.word.specs.declared.Processing.{Processing}
use Rattle.word.specs.declared.Single.{Single}
use Rattle.word.specs.declared.Instruction.{Instruction}

pub field-whole : (w : ℕ) → w < 2 ^ 32 → field w 0 32 ≡ w
unfolding field
field-whole w h = rw (div-one w) (mod-eq_of_lt h)

-- bits 27..25 are bits 27..26 and I
pub class-is : (w : ℕ) → (field w 25 3 ≡ field w 26 2 * 2 + field w 25 1) × (field w 25 1 < 2)
unfolding field
class-is w = (omega (arith, shr-shr w 25 1), field_lt w 25 1)

-- bits 27..25 are the upper three of bits 27..22
above22 : (w : ℕ) → field w 22 6 ≡ field w 25 3 * 8 + field w 22 3
unfolding field
above22 w = omega (arith, shr-shr w 22 3)

upper_of : (q : ℕ) → q % 8 ≡ 4 * (q / 4 % 2) + q % 4
upper_of q = omega arith

all_of : (q : ℕ) → q % 16 ≡ 2 * (q / 2 % 8) + q % 2
all_of q = omega arith

-- bits 7 and 4 are the outer two of bits 7..4
nibble : (w : ℕ) → field w 4 4 ≡ field w 7 1 * 8 + field w 5 2 * 2 + field w 4 1
unfolding field
nibble w =
    let low : w / 2 ^ 4 / 2 ≡ w / 2 ^ 5 = shr-shr w 4 1 in
    let high : w / 2 ^ 5 / 2 ^ 2 ≡ w / 2 ^ 7 = shr-shr w 5 2 in
    let upper : w / 2 ^ 5 % 8 ≡ 4 * (w / 2 ^ 7 % 2) + w / 2 ^ 5 % 4 = rw (sym high) (upper_of (w / 2 ^ 5)) in
    let all : w / 2 ^ 4 % 16 ≡ 2 * (w / 2 ^ 5 % 8) + w / 2 ^ 4 % 2 = rw (sym low) (all_of (w / 2 ^ 4)) in
    omega arith

outer : (w : ℕ) → field w 4 4 ≡ 9 → (field w 4 1 ≡ 1) × (field w 7 1 ≡ 1)
outer w e = omega (arith, nibble w, field_lt w 4 1, field_lt w 5 2, field_lt w 7 1)

-- a record with its operand written out, for a proof that goes by the operand's kind
abbrev pub processing_with : Processing → Operand → Instruction
processing_with i o = Instruction.Processing (record { condition = i.condition; operation = i.operation; s = i.s; rn = i.rn; rd = i.rd; operand = o })

abbrev pub single_with : Single → Operand → Instruction
single_with i o =
    Instruction.Single (record { condition = i.condition; p = i.p; u = i.u; b = i.b; w = i.w; l = i.l; rn = i.rn; rd = i.rd; offset = o })

-- ---- a table has each bit once

table-whole : (i : Instruction) → once 32 (table_of i) ≡ true
table-whole (Instruction.Processing i) = go i.operand
  where
    go : (o : Operand) → once 32 (table_of (processing_with i o)) ≡ true
    go (Constant r value) = refl
    go (ShiftByAmount rm shift amount) = refl
    go (ShiftByRegister rm shift rs) = refl
table-whole (Instruction.Single i) = go i.offset
  where
    go : (o : Operand) → once 32 (table_of (single_with i o)) ≡ true
    go (Constant r value) = refl
    go (ShiftByAmount rm shift amount) = refl
    go (ShiftByRegister rm shift rs) = refl
table-whole (Instruction.Block i) = refl
table-whole (Instruction.Branch i) = refl
table-whole (Instruction.Multiply i) = refl
table-whole (Instruction.Other word) = refl

-- ---- a word fits the table of the record that it reads as

module _ (w : ℕ) (h : w < 2 ^ 32) where
  itself : Fits w (Instruction.Other w)
  itself = (refl, (field-whole w h, tt))

  -- in the extension space a word is a multiply or itself
  extended_fits : (m : Bool) → is_multiply w ≡ m → Fits w (pick m (Instruction.Multiply (multiply_of w)) (Instruction.Other w))
  extended_fits true e =
      let p = (and-eq-true_iff _ _).0 e in
      let z : field w 22 6 ≡ 0 = eqb-true _ _ p.0 in
      let n : field w 4 4 ≡ 9 = eqb-true _ _ p.1 in
      (refl, simp num-bit (omega arith))
  extended_fits false e = itself

  fits : (k : ℕ) (b4 b7 : Bool) → field w 25 3 ≡ k → field w 4 1 ≡ num b4 → field w 7 1 ≡ num b7 → Fits w (classed w k b4 b7)
  fits zero true true e f g = extended_fits (is_multiply w) refl
  fits zero true false e f g = (refl, simp num-bit (omega (arith, class-is w)))
  fits zero false b7 e f g = (refl, simp num-bit (omega (arith, class-is w)))
  fits (suc zero) b4 b7 e f g = (refl, simp num-bit (omega (arith, class-is w)))
  fits (suc (suc zero)) b4 b7 e f g = (refl, simp num-bit (omega (arith, class-is w)))
  fits (suc (suc (suc zero))) true b7 e f g = itself
  fits (suc (suc (suc zero))) false b7 e f g = (refl, simp num-bit (omega (arith, class-is w)))
  fits (suc (suc (suc (suc zero)))) b4 b7 e f g = (refl, simp num-bit (omega arith))
  fits (suc (suc (suc (suc (suc zero))))) b4 b7 e f g = (refl, simp num-bit (omega arith))
  fits (suc (suc (suc (suc (suc (suc zero)))))) b4 b7 e f g = itself
  fits (suc (suc (suc (suc (suc (suc (suc zero))))))) b4 b7 e f g = itself
  fits (suc (suc (suc (suc (suc (suc (suc (suc k)))))))) b4 b7 e f g = absurd (omega (arith, field_lt w 25 3))

  reads_fit : Fits w (read_of w)
  unfolding read_of
  reads_fit = fits (field w 25 3) (bit w 4) (bit w 7) refl (sym (num-bit w 4)) (sym (num-bit w 7))

  -- ---- a word reads as the record whose table it fits

  multiply-bits : field w 22 6 ≡ 0 → field w 4 4 ≡ 9 → is_multiply w ≡ true
  multiply-bits z n = rw (z, n)

  own-word : (v : ℕ) → field w 0 32 ≡ v → Instruction.Other v ≡ Instruction.Other w
  own-word v e = ap Instruction.Other (sym e ∙ field-whole w h)

  reads_as : (i : Instruction) → Fits w i → (read_of w ≡ i) ⊎ (i ≡ Instruction.Other w)
  unfolding read_of bit
  reads_as (Instruction.Processing i) t = inl (go i.operand t.1)
    where
      go : (o : Operand) → Has w (table_of (processing_with i o)) → read_of w ≡ processing_with i o
      go (Constant r value) t = let c : field w 25 3 ≡ 1 = omega (arith, class-is w) in cc (bit-num i.s)
      go (ShiftByAmount rm shift amount) t = let c : field w 25 3 ≡ 0 = omega (arith, class-is w) in cc (bit-num i.s)
      go (ShiftByRegister rm shift rs) t = let c : field w 25 3 ≡ 0 = omega (arith, class-is w) in cc (bit-num i.s)
  reads_as (Instruction.Single i) t = inl (go i.offset t)
    where
      go : (o : Operand) → Fits w (single_with i o) → read_of w ≡ single_with i o
      go (Constant r value) t =
          let c : field w 25 3 ≡ 2 = omega (arith, class-is w) in
          cc (bit-num i.p, bit-num i.u, bit-num i.b, bit-num i.w, bit-num i.l)
      go (ShiftByAmount rm shift amount) t =
          let c : field w 25 3 ≡ 3 = omega (arith, class-is w) in
          cc (bit-num i.p, bit-num i.u, bit-num i.b, bit-num i.w, bit-num i.l)
      go (ShiftByRegister rm shift rs) t = cc
  reads_as (Instruction.Block i) t =
      let e : read_of w ≡ Instruction.Block (record { condition = i.condition; p = i.p; u = i.u; s = i.s; w = i.w; l = i.l; rn = i.rn; list = i.list }) =
      cc (bit-num i.p, bit-num i.u, bit-num i.s, bit-num i.w, bit-num i.l) in inl e
  reads_as (Instruction.Branch i) t =
      let e : read_of w ≡ Instruction.Branch (record { condition = i.condition; link = i.link; offset = i.offset }) = cc (bit-num i.link) in inl e
  reads_as (Instruction.Multiply i) t =
      let c : field w 25 3 ≡ 0 = omega (arith, above22 w) in
      let z : field w 22 6 ≡ 0 = t.1.1.0 in
      let n : field w 4 4 ≡ 9 = omega arith in
      let b = outer w n in
      let m : is_multiply w ≡ true = multiply-bits z n in
      let e : read_of w ≡ Instruction.Multiply (record { condition = i.condition; accumulate = i.accumulate; s = i.s; rd = i.rd; rn = i.rn; rs = i.rs; rm = i.rm }) =
      cc (bit-num i.accumulate, bit-num i.s) in inl e
  reads_as (Instruction.Other v) t = inr (own-word v t.1.0)

  other-is : (i : Instruction) → Fits w i → is_other i ≡ true → i ≡ Instruction.Other w
  other-is (Instruction.Processing i) t e = cc
  other-is (Instruction.Single i) t e = cc
  other-is (Instruction.Block i) t e = cc
  other-is (Instruction.Branch i) t e = cc
  other-is (Instruction.Multiply i) t e = cc
  other-is (Instruction.Other v) t e = own-word v t.1.0

pub layout : Layout
layout = record {
  whole = table-whole;
  reads = reads_fit;
  only = reads_as;
  other = λ w h. (other-is w h (read_of w) (reads_fit w h), ap is_other);
}
