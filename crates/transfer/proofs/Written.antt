-- A register written has the new value, and the others keep theirs.
-- Assumes nothing.
use Rattle.std.proofs.Common.{◌≡◌, ℕ, ◌*◌, ◌^◌, ◌<◌, Bool, true, false, eqb, ltb, ◌≢◌, List, length, get_or, refl, ◌∙◌, arith, eqb-true}
use borrow.Author.Tests.{eqb-false}
use Rattle.bits.specs.Choice.{pick}
use Rattle.word.specs.declared.Block.{Block}
use Rattle.datapath.specs.Counter.{r15_word}
use Rattle.registers.specs.Registers.{register, put}
use Rattle.registers.proofs.Written.{put_other, put_same, register-below}
use Rattle.transfer.specs.Single.{moved, stored_value}
use Rattle.transfer.specs.Block.{count, base_of, changed_base, with_base}
use Rattle.transfer.specs.Modes.{Words, new_base}
use Rattle.transfer.proofs.Lengths.{block-base-length}

-- a register written where a test holds
module _ (t : Bool) (g : List ℕ) (x v : ℕ) where
  pub picked-other : (r : ℕ) → r ≢ x → get_or (pick t (put g x v) g) r 0 ≡ get_or g r 0
  picked-other r n = go t
    where
      go : (t : Bool) → get_or (pick t (put g x v) g) r 0 ≡ get_or g r 0
      go true = put_other g x v r n
      go false = refl

  pub picked_same : x < 15 → length g ≡ 15 → get_or (pick t (put g x v) g) x 0 ≡ pick t v (get_or g x 0)
  picked_same h l = go t
    where
      go : (t : Bool) → get_or (pick t (put g x v) g) x 0 ≡ pick t v (get_or g x 0)
      go true = put_same g x v h l
      go false = refl

-- ---- the base of a block

module _ (i : Block) (g : List ℕ) (r : i.rn < 15) (words : Words g) where
  abbrev after : List ℕ
  after = with_base i g (changed_base i g)

  pub base-other : (x : ℕ) → x ≢ i.rn → get_or after x 0 ≡ get_or g x 0
  unfolding with_base
  base-other x n = picked-other i.w g i.rn (changed_base i g) x n

  pub base_same : get_or after i.rn 0 ≡ new_base i g
  unfolding with_base
  base_same = picked_same i.w g i.rn (changed_base i g) r words.0 ∙ rw (register-below g i.rn 0 r)

  pub base-words : Words after
  unfolding changed_base
  base-words = (block-base-length i g (changed_base i g) ∙ words.0, λ x. go x (eqb x i.rn) refl)
    where
      new-lt : (w u : Bool) (base offset : ℕ) → base < 2 ^ 32 → pick w (moved u base offset) base < 2 ^ 32
      new-lt true true base offset h = omega arith
      new-lt true false base offset h = omega arith
      new-lt false u base offset h = h

      go : (x : ℕ) (t : Bool) → eqb x i.rn ≡ t → get_or after x 0 < 2 ^ 32
      go x true e =
          rw (eqb-true x i.rn e, base_same)
          (new-lt i.w i.u (base_of i g) (4 * count i) (rw (register-below g i.rn 0 r) (words.1 i.rn)))
      go x false e = rw (base-other x (eqb-false x i.rn e)) (words.1 x)

-- ---- what a store sends is a word

pub stored-lt : (g : List ℕ) (f a12 x : ℕ) → Words g → stored_value g x f a12 < 2 ^ 32
unfolding stored_value register r15_word
stored-lt g f a12 x words = go (ltb x 15)
  where
    go : (t : Bool) → pick t (get_or g x 0) (r15_word f a12) < 2 ^ 32
    go true = words.1 x
    go false = omega arith
