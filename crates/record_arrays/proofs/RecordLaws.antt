-- Arrays that are the same; the array of a word's record and the record are inverse to each other. Assumes nothing.
use Prim.Native.Nat.{ℕ, zero, suc, ◌<◌}
use native.Mathlib.Omega.{arith}
use mathlib.Core.Path.{◌≡◌, refl, sym, ap, subst, ◌∙◌}
use mathlib.Core.Bool.{Bool, true, false, ◌&&◌, false≢true}
use mathlib.Core.List.{List}
use lib.Dec.{eqb}
use lib.ListN.{length}
use lib.Seq.{ext_get_or}
use borrow.Author.Count.{below_more}
use borrow.Author.Tests.{eqb-true, eq-eqb}
use Rattle.std.specs.Bool.{Decides}
use Rattle.std.specs.Cmp.Lexicographic.{pointwise}
use Rattle.std.proofs.lemmas.Bool.Decides.{Decides-eqb, same_from_decides}
use Rattle.std.proofs.lemmas.Slice.Eq.{slice_eq-Decides}
use Rattle.bits.proofs.Fields.{bit-num}
use Rattle.word.specs.declared.Operand.{Operand}
use Rattle.word.specs.declared.Operand.TheVariants.{Constant, ShiftByAmount, ShiftByRegister}
use Rattle.word.specs.declared.Instruction.{Instruction}
use Rattle.arrays.specs.Words.{at}
use Rattle.record_arrays.specs.RecordArray.{quad_of, operand_of, record_words, record_of, same, stands_for_record}

same_refl : (n : ℕ) (l : List ℕ) → same n l l ≡ true
unfolding same
same_refl zero l = refl
same_refl (suc n) l = rw (same_refl n l) (eq-eqb (at l n) (at l n) refl)

parted : (a b : Bool) → (a && b) ≡ true → (a ≡ true) × (b ≡ true)
parted true b h = (refl, h)
parted false b h = absurd (false≢true h)

same_at : (n : ℕ) (a b : List ℕ) → same n a b ≡ true → (k : ℕ) → k < n → at a k ≡ at b k
unfolding same
same_at zero a b h k l = absurd (omega arith)
same_at (suc n) a b h k l =
    let parts : (same n a b ≡ true) × (eqb (at a n) (at b n) ≡ true) = parted _ _ h in
    below_more _ _ (same_at n a b parts.0) (eqb-true (at a n) (at b n) parts.1) k (omega arith)

-- two arrays of 16 words are the same exactly where `same` says so
same_decides : (a b : List ℕ) → length a ≡ 16 → length b ≡ 16 → Decides (same 16 a b) (a ≡ b)
same_decides a b l m =
    (λ h. ext_get_or 0 a b (l ∙ sym m) (λ k n. same_at 16 a b h k (omega arith)), λ e. subst (λ (t : List ℕ). same 16 a t ≡ true) e (same_refl 16 a))

-- ---- laws

operand-back : (o : Operand) → operand_of (quad_of o) ≡ o
operand-back (Constant rotate value) = refl
operand-back (ShiftByAmount rm shift amount) = refl
operand-back (ShiftByRegister rm shift rs) = refl

pub record-back : (i : Instruction) → record_of (record_words i) ≡ i
unfolding record_of record_words
record-back (Instruction.Processing i) = simp (bit-num, operand-back i.operand)
record-back (Instruction.Single i) = simp (bit-num, operand-back i.offset)
record-back (Instruction.Block i) = simp bit-num
record-back (Instruction.Branch i) = simp bit-num
record-back (Instruction.Multiply i) = simp bit-num
record-back (Instruction.Other word) = refl

length-of : (i : Instruction) → length (record_words i) ≡ 16
unfolding record_words
length-of (Instruction.Processing i) = refl
length-of (Instruction.Single i) = refl
length-of (Instruction.Block i) = refl
length-of (Instruction.Branch i) = refl
length-of (Instruction.Multiply i) = refl
length-of (Instruction.Other word) = refl

pub record-words-back : (words : List ℕ) → length words ≡ 16 → stands_for_record words ≡ true → record_words (record_of words) ≡ words
unfolding stands_for_record
record-words-back words l h = sym ((same_decides words (record_words (record_of words)) l (length-of (record_of words))).0 h)

-- what `==` says of an array and of its record's array
pub compared : (words : List ℕ) {i : Instruction} {back : List ℕ} {r : Bool} → length words ≡ 16
    → i ≡ record_of words → back ≡ record_words i → r ≡ pointwise eqb words back → r ≡ stands_for_record words
unfolding stands_for_record
compared words {i} {back} {r} l e h p =
    let whole : back ≡ record_words (record_of words) = h ∙ ap record_words e in
    let long : length back ≡ 16 = ap length h ∙ length-of i in
    same_from_decides r (same 16 words back) (slice_eq-Decides Decides-eqb words back r p) (same_decides words back l long)
    ∙ ap (λ (t : List ℕ). same 16 words t) whole

-- every record's array stands for it
pub stands : (i : Instruction) → stands_for_record (record_words i) ≡ true
unfolding stands_for_record
stands i = rw (record-back i) (same_refl 16 (record_words i))
