-- What a refused read leaves: 1 leaves memory as it was, 41, 42 and 43 leave it zero; and which of the three a text's first bad line gives.
use Rattle.std.specs.Prelude.{ℕ, suc, ◌+◌, ◌*◌, ◌≤◌, ◌<◌, ◌≡◌, List, [], ◌∷◌, length, replicate}
use Rattle.memory.specs.Lengths.{GoodLength}
use Rattle.intel_hex.specs.Record.{Record, Unsound, Bytes, End, Upper}
use Rattle.intel_hex.specs.Reader.{answered, records, read}
use Rattle.intel_hex.specs.Writer.{written, write}

-- behind k good lines, with this upper half of addresses, the records give this answer and line, in a memory of n bytes; the numbers are given anew
pub data Gives (n : ℕ) : ℕ → ℕ → List Record → ℕ → ℕ → Type 0 where
  ends : (upper k : ℕ) (rest : List Record) → Gives n upper k (End ∷ rest) 0 0
  unsound : (upper k : ℕ) (rest : List Record) → Gives n upper k (Unsound ∷ rest) 41 (suc k)
  outside : (upper k address j : ℕ) (bytes : List ℕ) (rest : List Record) → j < length bytes → n ≤ 65536 * upper + address + j
      → Gives n upper k (Bytes address bytes ∷ rest) 42 (suc k)
  no_end : (upper k : ℕ) → Gives n upper k [] 43 k
  inside : (upper k address answer line : ℕ) (bytes : List ℕ) (rest : List Record) → ((j : ℕ) → j < length bytes → 65536 * upper + address + j < n)
      → Gives n upper (suc k) rest answer line → Gives n upper k (Bytes address bytes ∷ rest) answer line
  upper_half : (upper half k answer line : ℕ) (rest : List Record) → Gives n half (suc k) rest answer line → Gives n upper k (Upper half ∷ rest) answer line

pub record Refuses (text mem : List ℕ) : Type 0 where
  pub length_bad : (GoodLength (length mem) → ⊥) → read text mem ≡ answered 1 0 mem
  pub gives : GoodLength (length mem) → Gives (length mem) 0 0 (records text) (read text mem).answer (read text mem).line
  pub cleared : GoodLength (length mem) → ((read text mem).answer ≡ 0 → ⊥) → (read text mem).memory ≡ replicate (length mem) 0
  pub as_long : length (read text mem).memory ≡ length mem

-- What the writer answers: 1 for a bad length alone, for every line; and nothing past the end record, however large the number is.
pub record Writes (mem : List ℕ) (number : ℕ) : Type 0 where
  pub length_bad : (GoodLength (length mem) → ⊥) → write mem number ≡ written 1 []
  pub accepted : GoodLength (length mem) → (write mem number).answer ≡ 0
  pub past : GoodLength (length mem) → length mem + 16 ≤ 16 * number → (write mem number).text ≡ []
