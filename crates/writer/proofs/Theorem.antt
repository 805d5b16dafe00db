-- Term 2 on words, proved: a record is written as the words that fit its table, and the reader is these tables.
-- Assumes nothing.
use mathlib.Core.Path.{◌≡◌, refl, sym, ap, ◌∙◌}
use mathlib.Core.Bool.{true}
use mathlib.Core.Logic.{◌↔◌, ⊎_elim}
use Prim.Native.Nat.{ℕ, ◌^◌, ◌<◌}
use native.Mathlib.Omega.{arith}
use Rattle.std.specs.Prelude.{Result, Ok, Err}
use Rattle.word.specs.Reader.{read_of, is_other}
use Rattle.word.specs.Layout.{is_offset, has_kind, table_of, Has, Fits}
use Rattle.word.specs.declared.Operand.{Operand}
use Rattle.word.specs.declared.Operand.TheVariants.{Constant, ShiftByAmount, ShiftByRegister}
use Rattle.word.specs.declared.Instruction.{Instruction}
use Rattle.word.proofs.Tables.{field-whole, class-is, processing_with, single_with, layout}
use Rattle.writer.specs.Fields.{packed}
use Rattle.writer.specs.Writer.{written, answer_of, write_of, fields_of, class_has, single_has}
use Rattle.writer.specs.Term2.{Term2}
use Rattle.writer.specs.Layout.{Writes}
use Rattle.writer.specs.declared.NoWord.{NoWord}
use Rattle.writer.proofs.Fields.{fill, Reads, allowed, packed-iff}

-- a record's fields come to 32 bits, and say of a word what its table says
abbrev Laid : ℕ → Instruction → Type 0
Laid w i = (fill 32 (fields_of i) ≡ true) × (Reads w 32 (fields_of i) ↔ Has w (table_of i))

laid : (w : ℕ) (i : Instruction) → Laid w i
laid w (Instruction.Processing i) = go i.operand
  where
    go : (o : Operand) → Laid w (processing_with i o)
    go (Constant rotate value) = (refl, omega (arith, class-is w))
    go (ShiftByAmount rm shift amount) = (refl, omega (arith, class-is w))
    go (ShiftByRegister rm shift rs) = (refl, omega (arith, class-is w))
laid w (Instruction.Single i) = go i.offset
  where
    go : (o : Operand) → Laid w (single_with i o)
    go (Constant rotate value) = (refl, omega (arith, class-is w))
    go (ShiftByAmount rm shift amount) = (refl, omega (arith, class-is w))
    go (ShiftByRegister rm shift rs) = (refl, omega (arith, class-is w))
laid w (Instruction.Block i) = (refl, omega arith)
laid w (Instruction.Branch i) = (refl, omega arith)
laid w (Instruction.Multiply i) = (refl, omega arith)
laid w (Instruction.Other word) = (refl, omega arith)

-- a record is written as the words of 32 bits that fit its table
pub written_as : (w : ℕ) (i : Instruction) → class_has i ≡ true → w < 2 ^ 32 → Has w (table_of i) → written i ≡ Ok w
unfolding written
written_as w i c h t = rw c ((packed-iff (fields_of i) w (laid w i).0).1 (h, (laid w i).1.1 t))

-- the operand kinds that a single has are those of the layout
kinds : (o : Operand) → single_has o ≡ is_offset o
kinds (Constant rotate value) = refl
kinds (ShiftByAmount rm shift amount) = refl
kinds (ShiftByRegister rm shift rs) = refl

has-kind : (i : Instruction) → class_has i ≡ true → has_kind i ≡ true
has-kind (Instruction.Processing i) c = refl
has-kind (Instruction.Single i) c = sym (kinds i.offset) ∙ c
has-kind (Instruction.Block i) c = refl
has-kind (Instruction.Branch i) c = refl
has-kind (Instruction.Multiply i) c = refl
has-kind (Instruction.Other word) c = refl

fits : (w : ℕ) (i : Instruction) → written i ≡ Ok w → (w < 2 ^ 32) × Fits w i × (class_has i ≡ true)
unfolding written
fits w i e =
    let a = allowed (class_has i) (packed (Ok 0) (fields_of i)) w e in
    let p = (packed-iff (fields_of i) w (laid w i).0).0 a.1 in
    (p.0, (has-kind i a.0, (laid w i).1.0 p.1), a.0)

-- ---- a word is written as it was read

module _ (w : ℕ) (h : w < 2 ^ 32) where
  read_has : (i : Instruction) → read_of w ≡ i → Fits w i → class_has i ≡ true
  read_has (Instruction.Processing i) r f = refl
  read_has (Instruction.Single i) r f = kinds i.offset ∙ f.0
  read_has (Instruction.Block i) r f = refl
  read_has (Instruction.Branch i) r f = refl
  read_has (Instruction.Multiply i) r f = refl
  read_has (Instruction.Other v) r f =
      let e : v ≡ w = sym f.1.0 ∙ field-whole w h in ap is_other (ap read_of e ∙ r)

  written_back : written (read_of w) ≡ Ok w
  written_back =
      let f = layout.reads w h in written_as w (read_of w) (read_has (read_of w) refl f) h f.1

-- ---- an accepted record is read as it was written

read_back : (w : ℕ) (i : Instruction) → written i ≡ Ok w → read_of w ≡ i
read_back w i e =
    let f = fits w i e in
    ⊎_elim (λ r. r) (λ (o : i ≡ Instruction.Other w). (layout.other w f.0).0 (rw o at f.2) ∙ sym o)
    (layout.only w f.0 i f.1)

-- number 0 is an accepted record
accepted : (m : Result ℕ NoWord) → (answer_of m).number ≡ 0 → m ≡ Ok (answer_of m).word
accepted (Ok w) e = refl
accepted (Err r) e = absurd (omega arith)

pub term2 : Term2
term2 = record {
  writes_back = λ w h. ap answer_of (written_back w h);
  fits = λ i e. (fits (write_of i).word i (accepted (written i) e)).0;
  reads_back = λ i e. read_back (write_of i).word i (accepted (written i) e);
}

pub writes : Writes
writes i e = (fits (write_of i).word i (accepted (written i) e)).1
