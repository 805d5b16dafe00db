-- The byte of an address is a byte of its word, in reads and after writes.
-- Assumes nothing.
use mathlib.Core.Path.{◌≡◌, refl, sym, ap, ◌∙◌}
use mathlib.Core.Bool.{true}
use mathlib.Core.List.{List}
use Prim.Native.Nat.{ℕ, zero, suc, ◌+◌, ◌/◌, ◌%◌, ◌^◌, ◌<◌}
use native.Mathlib.Omega.{arith}
use lib.ListN.{length, get_or}
use Rattle.bits.specs.Bits.{field}
use Rattle.memory.specs.Bytes.{word_base, holds_word, load_word, word_in, with_word, byte_in, with_byte}
use Rattle.memory.specs.Memory.{place, limit}
use Rattle.memory.specs.Lanes.{lane, Bytes, Lanes}
use Rattle.memory.proofs.ByteLaws.{read_held, read-same-word, holds-word, write-length, write-byte-length, write_bytes, write-byte-bytes, byte-other, byte-other-byte, read_back, read-byte-back}

-- the bytes of the word at a place
lanes_at : (mem : List ℕ) → Bytes mem → (at k : ℕ) → k < 4 → get_or mem (at + k) 0 ≡ lane (load_word mem at) k
unfolding field
lanes_at mem bytes at k h = go k h (bytes at) (bytes (at + 1)) (bytes (at + 2)) (bytes (at + 3))
  where
    go : (k : ℕ) → k < 4 → get_or mem at 0 < 256 → get_or mem (at + 1) 0 < 256 → get_or mem (at + 2) 0 < 256 → get_or mem (at + 3) 0 < 256
        → get_or mem (at + k) 0 ≡ lane (load_word mem at) k
    go zero h h0 h1 h2 h3 = let e : at + 0 ≡ at = omega arith in rw e (omega arith)
    go (suc zero) h h0 h1 h2 h3 = omega arith
    go (suc (suc zero)) h h0 h1 h2 h3 = omega arith
    go (suc (suc (suc zero))) h h0 h1 h2 h3 = omega arith
    go (suc (suc (suc (suc k)))) h h0 h1 h2 h3 = absurd (omega arith)

-- a memory that is as long as one of whole words
module _ (mem : List ℕ) (bytes : Bytes mem) (whole : length mem % 4 ≡ 0) where
  held : (m : List ℕ) (a : ℕ) → length m ≡ length mem → a < length mem → holds_word m a ≡ true
  held m a e h = holds-word m a (omega arith) (omega arith)

  read : (m : List ℕ) (a : ℕ) → Bytes m → length m ≡ length mem → a < length mem → byte_in m a ≡ lane (word_in m a) (a % 4)
  unfolding byte_in
  read m a b l h =
      let e : a ≡ word_base a + a % 4 = omega arith in
      rw (read_held m a (held m a l h)) (ap (λ (x : ℕ). get_or m x 0) e ∙ lanes_at m b (word_base a) (a % 4) (omega arith))

  module _ (a : ℕ) (h : a < length mem) where
    written : (b v : ℕ) → a / 4 ≡ b / 4 → v < 2 ^ 32 → byte_in (with_word mem a v) b ≡ lane v (b % 4)
    written b v e l =
        read (with_word mem a v) b (write_bytes mem a v bytes) (write-length mem a v) (omega arith)
        ∙ ap (λ (w : ℕ). lane w (b % 4))
        (sym (read-same-word (with_word mem a v) a b e) ∙ read_back mem a v (held mem a refl h) l)

    after : (b v : ℕ) → b < length mem → byte_in (with_byte mem a v) b ≡ lane (word_in (with_byte mem a v) b) (b % 4)
    after b v k = read (with_byte mem a v) b (write-byte-bytes mem a v bytes) (write-byte-length mem a v) k

    stored : (v : ℕ) → lane (word_in (with_byte mem a v) a) (a % 4) ≡ lane v 0
    unfolding field
    stored v = sym (after a v h) ∙ read-byte-back mem a v h ∙ omega arith

    kept : (b v : ℕ) → b < length mem → (a ≡ b → ⊥) → lane (word_in (with_byte mem a v) b) (b % 4) ≡ lane (word_in mem b) (b % 4)
    kept b v k n = sym (after b v k) ∙ byte-other-byte mem a b v n ∙ read mem b bytes refl k

pub lanes : Lanes
unfolding place limit
lanes m a bytes e whole h =
    let mem = m.bytes in
    let k : a < length mem = omega arith in
    record {
      read = read mem bytes whole mem a bytes refl k;
      written = written mem bytes whole a k;
      unwritten = λ b v n. byte-other mem a b v n;
      stored = stored mem bytes whole a k;
      kept = λ b v l. kept mem bytes whole a k b v (omega arith);
    }
