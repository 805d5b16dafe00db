-- Stores that do not hit a word leave the fetch of that word as it was.
-- Assumes nothing.
use Prim.Native.Nat.{ℕ, ◌+◌, ◌*◌, ◌/◌, ◌^◌, ◌≤◌}
use mathlib.Core.Path.{◌≡◌, refl, sym, ◌∙◌}
use mathlib.Core.List.{List, [], ◌∷◌}
use mathlib.Core.Bool.{Bool, true, false}
use native.Mathlib.Nat.{mod-eq_of_lt}
use native.Mathlib.Omega.{arith}
use lib.ListN.{length}
use lib.Dec.{eqb}
use borrow.Author.Tests.{eqb-false}
use Rattle.word.specs.declared.Single.{Single}
use Rattle.memory.specs.Memory.{Memory, place, write_word, write_byte, word_at}
use Rattle.memory.proofs.Laws.{word-at-other, word-at-other-byte}
use Rattle.transfer.specs.Single.{stored_value, stored_to}
use Rattle.transfer.specs.Block.{stores, stores_all, next}
use Rattle.stops.specs.Moves.{span}
use Rattle.stops.specs.Stops.{hits}
use Rattle.semantics.proofs.Both.{or-false}

word_kept : (s : Memory) (b v c : ℕ) → eqb (place s.board b / 4) (place s.board c / 4) ≡ false → word_at s c ≡ word_at (write_word s b v) c
word_kept s b v c h = sym (word-at-other s b c v (eqb-false (place s.board b / 4) (place s.board c / 4) h))

pub single-kept : (i : Single) (s : Memory) (b v c : ℕ) → hits (b ∷ []) c s.board ≡ false → word_at s c ≡ word_at (stored_to i s b v) c
unfolding stored_to
single-kept i s b v c h = go i.b (or-false (eqb (place s.board b / 4) (place s.board c / 4)) h).0
  where
    go : (t : Bool) → eqb (place s.board b / 4) (place s.board c / 4) ≡ false → word_at s c ≡ word_at (Rattle.bits.specs.Choice.pick t (write_byte s b v) (write_word s b v)) c
    go true e = sym (word-at-other-byte s b c v (eqb-false (place s.board b / 4) (place s.board c / 4) e))
    go false e = word_kept s b v c e

pub stores-kept : (xs g : List ℕ) (f a12 b c : ℕ) (s : Memory) → b + 4 * length xs ≤ 2 ^ 32 → hits (span (length xs) b) c s.board ≡ false
    → word_at s c ≡ word_at (stores xs g f a12 b s) c
unfolding stores
stores-kept [] g f a12 b c s l h = refl
stores-kept (x ∷ []) g f a12 b c s l h = word_kept s b (stored_value g x f a12) c (or-false (eqb (place s.board b / 4) (place s.board c / 4)) h).0
stores-kept (x ∷ (y ∷ ys)) g f a12 b c s l h =
    let e : next b ≡ b + 4 = mod-eq_of_lt (omega arith) in
    let o = or-false (eqb (place s.board b / 4) (place s.board c / 4)) h in
    word_kept s b (stored_value g x f a12) c o.0
    ∙ rw e (stores-kept (y ∷ ys) g f a12 (b + 4) c (write_word s b (stored_value g x f a12)) (omega arith) o.1)

pub stores-all-kept : (xs g h : List ℕ) (f a12 b c : ℕ) (s : Memory) → b + 4 * length xs ≤ 2 ^ 32 → hits (span (length xs) b) c s.board ≡ false
    → word_at s c ≡ word_at (stores_all xs g h f a12 b s) c
unfolding stores_all stores
stores-all-kept [] g h f a12 b c s l e = refl
stores-all-kept (x ∷ []) g h f a12 b c s l e = word_kept s b (stored_value g x f a12) c (or-false (eqb (place s.board b / 4) (place s.board c / 4)) e).0
stores-all-kept (x ∷ (y ∷ ys)) g h f a12 b c s l e =
    let n : next b ≡ b + 4 = mod-eq_of_lt (omega arith) in
    let o = or-false (eqb (place s.board b / 4) (place s.board c / 4)) e in
    word_kept s b (stored_value g x f a12) c o.0
    ∙ rw n (stores-kept (y ∷ ys) h f a12 (b + 4) c (write_word s b (stored_value g x f a12)) (omega arith) o.1)
