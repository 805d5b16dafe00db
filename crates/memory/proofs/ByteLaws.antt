-- The laws of lent bytes: what a write keeps, and what is read back. They are stated over the number of the word, place / 4,
-- so that no place has to be aligned.
-- Assumes nothing.
use Prim.Native.Nat.{ℕ, ◌+◌, ◌/◌, ◌%◌, ◌^◌, ◌<◌}
use mathlib.Core.Path.{◌≡◌, refl, ap, sym, ◌∙◌}
use mathlib.Core.Bool.{Bool, true, false}
use mathlib.Core.List.{List}
use mathlib.Core.Logic.{◌≢◌}
use native.Mathlib.Omega.{arith}
use lib.Dec.{lit<, eqb, ltb}
use lib.ListN.{length, get_or, set, length-set}
use lib.Pow.{mod-pow-add, recompose}
use lib.Seq.{get_or-set_same, get_or-set_other, lt-length-set, set_out}
use borrow.Author.Tests.{lt-ltb, ltb-true, ltb-false, eqb-true, eqb-false}
use Rattle.bits.specs.Choice.{pick}
use Rattle.memory.specs.Lanes.{Bytes}
use Rattle.memory.specs.Bytes.{word_base, holds_word, little, load_word, store_word, word_in, with_word, byte_in, with_byte}

-- ---- the word of a place, inside or not

-- a memory of whole words holds the word of each address below its length
pub holds-word : (mem : List ℕ) (a : ℕ) → a < length mem → length mem % 4 ≡ 0 → holds_word mem a ≡ true
unfolding holds_word
holds-word mem a h whole = lt-ltb (word_base a + 3) (length mem) (omega arith)

-- whether a word is held goes by the length alone
pub holds-length : (m n : List ℕ) (a : ℕ) → length m ≡ length n → holds_word m a ≡ holds_word n a
unfolding holds_word
holds-length m n a e = rw e

module _ (mem : List ℕ) (a : ℕ) (h : holds_word mem a ≡ true) where
  pub held-lt : word_base a + 3 < length mem
  unfolding holds_word
  held-lt = ltb-true (word_base a + 3) (length mem) h

  pub read_held : word_in mem a ≡ load_word mem (word_base a)
  unfolding word_in
  read_held = rw h

  pub write-held : (v : ℕ) → with_word mem a v ≡ store_word mem (word_base a) v
  unfolding with_word
  write-held v = rw h

pub read_out : (mem : List ℕ) (a : ℕ) → holds_word mem a ≡ false → word_in mem a ≡ 0
unfolding word_in
read_out mem a h = rw h

pub write-out : (mem : List ℕ) (a v : ℕ) → holds_word mem a ≡ false → with_word mem a v ≡ mem
unfolding with_word
write-out mem a v h = rw h

-- two places of one word
module _ (mem : List ℕ) (a b : ℕ) (e : a / 4 ≡ b / 4) where
  pub holds-same-word : holds_word mem a ≡ holds_word mem b
  unfolding holds_word
  holds-same-word = rw e

  pub read-same-word : word_in mem a ≡ word_in mem b
  unfolding word_in
  read-same-word = rw (holds-same-word, e)

  pub write-same-word : (v : ℕ) → with_word mem a v ≡ with_word mem b v
  unfolding with_word
  write-same-word v = rw (holds-same-word, e)

-- ---- what a write keeps

-- the length
pub write-length : (mem : List ℕ) (a v : ℕ) → length (with_word mem a v) ≡ length mem
unfolding with_word
write-length mem a v = go (holds_word mem a)
  where
    go : (b : Bool) → length (pick b (store_word mem (word_base a) v) mem) ≡ length mem
    go true = simp length-set
    go false = refl

pub write-byte-length : (mem : List ℕ) (a v : ℕ) → length (with_byte mem a v) ≡ length mem
unfolding with_byte
write-byte-length mem a v = length-set mem a (v % 256)

-- the other bytes
pub byte-other : (mem : List ℕ) (a k v : ℕ) → (a / 4 ≡ k / 4 → ⊥) → byte_in (with_word mem a v) k ≡ byte_in mem k
unfolding with_word byte_in
byte-other mem a k v n = go (holds_word mem a)
  where
    go : (b : Bool) → get_or (pick b (store_word mem (word_base a) v) mem) k 0 ≡ get_or mem k 0
    go true =
        let n0 : k ≢ word_base a = λ e. n (omega arith) in
        let n1 : k ≢ word_base a + 1 = λ e. n (omega arith) in
        let n2 : k ≢ word_base a + 2 = λ e. n (omega arith) in
        let n3 : k ≢ word_base a + 3 = λ e. n (omega arith) in
        simp get_or-set_other
    go false = refl

pub byte-other-byte : (mem : List ℕ) (a k v : ℕ) → (a ≡ k → ⊥) → byte_in (with_byte mem a v) k ≡ byte_in mem k
unfolding with_byte byte_in
byte-other-byte mem a k v n = get_or-set_other mem a k (v % 256) 0 (λ e. n (sym e))

-- a word is read off the length and its own bytes
module _ (m n : List ℕ) (b : ℕ) (e : length m ≡ length n) (same : (k : ℕ) → b / 4 ≡ k / 4 → byte_in m k ≡ byte_in n k) where
  read-agree : word_in m b ≡ word_in n b
  unfolding word_in byte_in
  read-agree =
      rw (
        holds-length m n b e,
        same (word_base b) (omega arith),
        same (word_base b + 1) (omega arith),
        same (word_base b + 2) (omega arith),
        same (word_base b + 3) (omega arith),
      )

-- the other words
module _ (mem : List ℕ) (a b v : ℕ) (n : a / 4 ≡ b / 4 → ⊥) where
  word_kept : (k : ℕ) → b / 4 ≡ k / 4 → byte_in (with_word mem a v) k ≡ byte_in mem k
  word_kept k e = byte-other mem a k v (λ f. n (f ∙ sym e))

  byte-kept : (k : ℕ) → b / 4 ≡ k / 4 → byte_in (with_byte mem a v) k ≡ byte_in mem k
  byte-kept k e = byte-other-byte mem a k v (λ f. n (ap (λ (x : ℕ). x / 4) f ∙ sym e))

  pub read-other : word_in (with_word mem a v) b ≡ word_in mem b
  read-other = read-agree (with_word mem a v) mem b (write-length mem a v) word_kept

  pub read-other-byte : word_in (with_byte mem a v) b ≡ word_in mem b
  read-other-byte = read-agree (with_byte mem a v) mem b (write-byte-length mem a v) byte-kept

-- ---- what is read back

digits : (v : ℕ) → v < 2 ^ 32 → little (v % 256) (v / 256 % 256) (v / 65536 % 256) (v / 16777216 % 256) ≡ v
digits v h = omega (arith, mod-pow-add v 8 8, mod-pow-add v 8 16, recompose 8 24 h)

load_store : (mem : List ℕ) (at v : ℕ) → at + 3 < length mem → v < 2 ^ 32 → load_word (store_word mem at v) at ≡ v
load_store mem at v h bound =
    let n01 : at ≢ at + 1 = λ e. omega arith in
    let n02 : at ≢ at + 2 = λ e. omega arith in
    let n03 : at ≢ at + 3 = λ e. omega arith in
    let n12 : at + 1 ≢ at + 2 = λ e. omega arith in
    let n13 : at + 1 ≢ at + 3 = λ e. omega arith in
    let n23 : at + 2 ≢ at + 3 = λ e. omega arith in
    let h0 : at < length mem = omega arith in
    let h1 : at + 1 < length mem = omega arith in
    let h2 : at + 2 < length mem = omega arith in
    simp (get_or-set_other, get_or-set_same, lt-length-set) (digits v bound)

pub read_back : (mem : List ℕ) (a v : ℕ) → holds_word mem a ≡ true → v < 2 ^ 32 → word_in (with_word mem a v) a ≡ v
read_back mem a v h bound =
    read_held (with_word mem a v) a (holds-length (with_word mem a v) mem a (write-length mem a v) ∙ h)
    ∙ rw (write-held mem a h v) (load_store mem (word_base a) v (held-lt mem a h) bound)

pub read-byte-back : (mem : List ℕ) (a v : ℕ) → a < length mem → byte_in (with_byte mem a v) a ≡ v % 256
unfolding byte_in with_byte
read-byte-back mem a v h = get_or-set_same mem a (v % 256) 0 h

-- ---- sizes: a memory of bytes stays one, and its words are below 2 ^ 32

set-bytes : (mem : List ℕ) (i x : ℕ) → Bytes mem → Bytes (set mem i (x % 256))
set-bytes mem i x bytes k = go (eqb k i) refl (ltb i (length mem)) refl
  where
    go : (same : Bool) → eqb k i ≡ same → (within : Bool) → ltb i (length mem) ≡ within
        → get_or (set mem i (x % 256)) k 0 < 256
    go false other _ _ = rw (get_or-set_other mem i k (x % 256) 0 (eqb-false k i other)) (bytes k)
    go true same false out = rw (set_out mem i (x % 256) (ltb-false i (length mem) out)) (bytes k)
    go true same true within =
        rw (eqb-true k i same, get_or-set_same mem i (x % 256) 0 (ltb-true i (length mem) within)) (omega arith)

pub write_bytes : (mem : List ℕ) (a v : ℕ) → Bytes mem → Bytes (with_word mem a v)
unfolding with_word
write_bytes mem a v bytes = go (holds_word mem a)
  where
    go : (b : Bool) → Bytes (pick b (store_word mem (word_base a) v) mem)
    go true = search set-bytes
    go false = bytes

pub write-byte-bytes : (mem : List ℕ) (a v : ℕ) → Bytes mem → Bytes (with_byte mem a v)
unfolding with_byte
write-byte-bytes = set-bytes

pub read-lt : (mem : List ℕ) (a : ℕ) → Bytes mem → word_in mem a < 2 ^ 32
unfolding word_in
read-lt mem a bytes = go (holds_word mem a)
  where
    go : (b : Bool) → pick b (load_word mem (word_base a)) 0 < 2 ^ 32
    go true =
        omega (
          arith,
          bytes (word_base a),
          bytes (word_base a + 1),
          bytes (word_base a + 2),
          bytes (word_base a + 3),
        )
    go false = lit< tt

pub read-byte-lt : (mem : List ℕ) (a : ℕ) → Bytes mem → byte_in mem a < 256
unfolding byte_in
read-byte-lt mem a bytes = bytes a
