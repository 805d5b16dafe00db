-- Four bytes of a list together: inside it where a word is held, and written over.
-- Assumes nothing.
use Rattle.std.specs.Prelude.{ℕ, zero, suc, ◌+◌, ◌-◌, ◌<◌, ◌≡◌, List, [], ◌∷◌, ◌++◌, true, false, length, set, take, drop, refl}
use Rattle.std.proofs.Common.{ap, sym, arith}
use native.Mathlib.Nat.{suc-add, add-sub_cancel_left}
use borrow.Rule.Slice.PartMut.{put_mid}
use borrow.Author.Tests.{ltb-true}
use Rattle.memory.specs.Bytes.{word_base, holds_word, store_word, with_word}
use Rattle.memory.proofs.ByteLaws.{write-held, write-out}
use Rattle.std.proofs.lemmas.List.{drop-drop}

-- four elements written over, one after the other
pub four_set : (a : ℕ) (xs : List ℕ) (p q r s : ℕ) → a + 3 < length xs
    → take a xs ++ (p ∷ q ∷ r ∷ s ∷ [] ++ drop (a + 4) xs) ≡ set (set (set (set xs a p) (a + 1) q) (a + 2) r) (a + 3) s
four_set zero [] p q r s h = let e : ⊥ = omega (arith, h) in absurd e
four_set zero (x ∷ []) p q r s h = let e : ⊥ = omega (arith, h) in absurd e
four_set zero (x ∷ y ∷ []) p q r s h = let e : ⊥ = omega (arith, h) in absurd e
four_set zero (x ∷ y ∷ z ∷ []) p q r s h = let e : ⊥ = omega (arith, h) in absurd e
four_set zero (x ∷ y ∷ z ∷ w ∷ xs) p q r s h = refl
four_set (suc a) [] p q r s h = let e : ⊥ = omega (arith, h) in absurd e
four_set (suc a) (x ∷ xs) p q r s h =
    rw (suc-add a 4, suc-add a 1, suc-add a 2, suc-add a 3) (ap (λ ys. x ∷ ys) (four_set a xs p q r s (omega (arith, h))))

-- ---- as words and places. These cite the definitions' bounds and order of bytes and do not say them anew: where code and definition change
-- alike, they stand, and the laws alone refuse.

pub four_inside : (mem : List ℕ) (place : ℕ) → holds_word mem place ≡ true → word_base place + 3 < length mem
unfolding holds_word
four_inside mem place h = omega (arith, ltb-true _ _ h)

-- a word written over the four bytes of its place, as a part of a slice is written back
pub word_over : (mem : List ℕ) (place v at p q r s : ℕ) → at ≡ word_base place → holds_word mem place ≡ true → at + 3 < length mem
    → set (set (set (set mem at p) (at + 1) q) (at + 2) r) (at + 3) s ≡ store_word mem at v
    → put_mid at (at + 4 - at) mem (p ∷ q ∷ r ∷ s ∷ []) ≡ with_word mem place v
word_over mem place v at p q r s e h lt eq =
    rw (add-sub_cancel_left, drop-drop 4 at mem, four_set at mem p q r s lt, eq, e, write-held mem place h v) refl

pub not_written : (mem : List ℕ) (place v : ℕ) → holds_word mem place ≡ false → mem ≡ with_word mem place v
not_written mem place v h = sym (write-out mem place v h)
