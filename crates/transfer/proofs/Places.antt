-- A block store has its named registers in memory afterwards, one a word, lowest first from its lowest address on.
-- Assumes nothing.
use Rattle.std.proofs.Common.{◌≡◌, ℕ, zero, suc, ◌+◌, ◌*◌, ◌/◌, ◌%◌, ◌^◌, ◌<◌, ◌≤◌, true, ◌⊎◌, List, [], ◌∷◌, length, get_or, refl, ◌∙◌, inl, inr, ⊎_elim, mod-eq_of_lt, arith, lt-ltb}
use Rattle.memory.specs.Bytes.{word_base, holds_word}
use Rattle.memory.specs.Memory.{Memory, place, read_word, write_word}
use Rattle.memory.proofs.Laws.{read-other, read_back, write-length}
use Rattle.transfer.specs.Single.{stored_value}
use Rattle.transfer.specs.Block.{next, stores, stores_all}

-- the word of an address is none of n from a on
abbrev pub Beside : ℕ → ℕ → ℕ → Type 0
Beside n a b = (b / 4 < a / 4) ⊎ (a / 4 + n ≤ b / 4)

-- registers g, flags f and a12 store words; no address wraps
module _ (g : List ℕ) (f a12 : ℕ) (words : (n : ℕ) → stored_value g n f a12 < 2 ^ 32) where
  -- the words beside are kept
  stores-kept : (xs : List ℕ) (a : ℕ) (mem : Memory) (b : ℕ) → Beside (length xs) a b → a + 4 * length xs < 2 ^ 32
      → read_word (stores xs g f a12 a mem) b ≡ read_word mem b
  unfolding stores place
  stores-kept [] a mem b h l = refl
  stores-kept (x ∷ xs) a mem b h l =
      let e : next a ≡ a + 4 = mod-eq_of_lt (omega arith) in
      let later : Beside (length xs) (a + 4) b = ⊎_elim (λ o. inl (omega arith)) (λ o. inr (omega arith)) h in
      let other : a / 4 ≡ b / 4 → ⊥ = λ q. ⊎_elim (λ o. omega arith) (λ o. omega arith) h in
      rw (e, stores) (stores-kept xs (a + 4) (write_word mem a (stored_value g x f a12)) b later (omega arith) ∙ read-other mem a b (stored_value g x f a12) other)

  -- the word stored before the others
  first-kept : (xs : List ℕ) (a v : ℕ) (mem : Memory) → a % 4 ≡ 0 → a + 4 * suc (length xs) ≤ length mem.bytes → length mem.bytes < 2 ^ 32 → v < 2 ^ 32
      → read_word (stores xs g f a12 (next a) (write_word mem a v)) a ≡ v
  unfolding holds_word place
  first-kept xs a v mem w i l bound =
      let e : next a ≡ a + 4 = mod-eq_of_lt (omega arith) in
      let held : holds_word mem.bytes a ≡ true = lt-ltb (word_base a + 3) (length mem.bytes) (omega arith) in
      rw e (stores-kept xs (a + 4) (write_word mem a v) a (inl (omega arith)) (omega arith) ∙ read_back mem a v held bound)

  stored_at : (xs : List ℕ) (a : ℕ) (mem : Memory) (k : ℕ) → k < length xs → a % 4 ≡ 0 → a + 4 * length xs ≤ length mem.bytes
      → length mem.bytes < 2 ^ 32
      → read_word (stores xs g f a12 a mem) (a + 4 * k) ≡ stored_value g (get_or xs k 16) f a12
  unfolding stores
  stored_at [] a mem k h w i l = absurd (omega arith)
  stored_at (x ∷ xs) a mem zero h w i l =
      let e : a + 4 * 0 ≡ a = omega arith in
      rw e (first-kept xs a (stored_value g x f a12) mem w i l (words x))
  stored_at (x ∷ xs) a mem (suc k) h w i l =
      let e : next a ≡ a + 4 = mod-eq_of_lt (omega arith) in
      let d : a + 4 * suc k ≡ a + 4 + 4 * k = omega arith in
      let same : length (write_word mem a (stored_value g x f a12)).bytes ≡ length mem.bytes = write-length mem a (stored_value g x f a12) in
      rw (e, d, stores)
      (stored_at xs (a + 4) (write_word mem a (stored_value g x f a12)) k (omega arith) (omega arith) (omega arith) (omega arith))

-- a whole store: the lowest register as it was before the base is written, the others as they are after
module _
    (g h : List ℕ)
    (f a12 : ℕ)
    (old : (n : ℕ) → stored_value g n f a12 < 2 ^ 32)
    (new : (n : ℕ) → stored_value h n f a12 < 2 ^ 32)
    (a : ℕ)
    (mem : Memory)
    (aligned : a % 4 ≡ 0)
    (short : length mem.bytes < 2 ^ 32)
  where
    pub lowest-at : (xs : List ℕ) → a + 4 * length xs ≤ length mem.bytes → 0 < length xs
        → read_word (stores_all xs g h f a12 a mem) a ≡ stored_value g (get_or xs 0 16) f a12
    unfolding stores_all
    lowest-at [] inside l = absurd (omega arith)
    lowest-at (x ∷ xs) inside l = first-kept h f a12 new xs a (stored_value g x f a12) mem aligned inside short (old x)

    pub other_at : (xs : List ℕ) → a + 4 * length xs ≤ length mem.bytes → (k : ℕ) → suc k < length xs
        → read_word (stores_all xs g h f a12 a mem) (a + 4 * suc k) ≡ stored_value h (get_or xs (suc k) 16) f a12
    unfolding stores_all
    other_at [] inside k l = absurd (omega arith)
    other_at (x ∷ xs) inside k l =
        let e : next a ≡ a + 4 = mod-eq_of_lt (omega arith) in
        let d : a + 4 * suc k ≡ a + 4 + 4 * k = omega arith in
        let same : length (write_word mem a (stored_value g x f a12)).bytes ≡ length mem.bytes = write-length mem a (stored_value g x f a12) in
        rw (e, d)
        (stored_at h f a12 new xs (a + 4) (write_word mem a (stored_value g x f a12)) k (omega arith) (omega arith) (omega arith) (omega arith))

    pub all-kept : (xs : List ℕ) → a + 4 * length xs ≤ length mem.bytes → (b : ℕ) → Beside (length xs) a b
        → read_word (stores_all xs g h f a12 a mem) b ≡ read_word mem b
    unfolding stores_all place
    all-kept [] inside b beside = refl
    all-kept (x ∷ xs) inside b beside =
        let e : next a ≡ a + 4 = mod-eq_of_lt (omega arith) in
        let later : Beside (length xs) (a + 4) b = ⊎_elim (λ o. inl (omega arith)) (λ o. inr (omega arith)) beside in
        let other : a / 4 ≡ b / 4 → ⊥ = λ q. ⊎_elim (λ o. omega arith) (λ o. omega arith) beside in
        rw e
        (stores-kept h f a12 new xs (a + 4) (write_word mem a (stored_value g x f a12)) b later (omega arith)
        ∙ read-other mem a b (stored_value g x f a12) other)
