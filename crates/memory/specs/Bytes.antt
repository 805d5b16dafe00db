-- Lent bytes, read and written as little-endian words and as bytes, at a place in them. A place outside reads as 0, and
-- a write there changes nothing, so that each function is total.
use Rattle.std.specs.Prelude.{ℕ, ◌+◌, ◌*◌, ◌/◌, ◌%◌, Bool, List, ltb, length, get_or, set}
use Rattle.bits.specs.Choice.{pick}

-- where the word of an address, or of a place, begins: words ignore the low two bits
abbrev pub word_base : ℕ → ℕ
word_base a = a / 4 * 4

-- the whole word of a place is inside
unfoldable pub holds_word : List ℕ → ℕ → Bool
holds_word mem a = ltb (word_base a + 3) (length mem)

-- four bytes as a word, the first the lowest
abbrev pub little : ℕ → ℕ → ℕ → ℕ → ℕ
little b0 b1 b2 b3 = b0 + b1 * 256 + b2 * 65536 + b3 * 16777216

-- the word whose bytes begin at a place
abbrev pub load_word : List ℕ → ℕ → ℕ
load_word mem at = little (get_or mem at 0) (get_or mem (at + 1) 0) (get_or mem (at + 2) 0) (get_or mem (at + 3) 0)

-- the four bytes of a value, stored from a place on
abbrev pub store_word : List ℕ → ℕ → ℕ → List ℕ
store_word mem at v =
    set (set (set (set mem at (v % 256)) (at + 1) (v / 256 % 256)) (at + 2) (v / 65536 % 256)) (at + 3) (v / 16777216 % 256)

unfoldable pub word_in : List ℕ → ℕ → ℕ
word_in mem a = pick (holds_word mem a) (load_word mem (word_base a)) 0

unfoldable pub with_word : List ℕ → ℕ → ℕ → List ℕ
with_word mem a v = pick (holds_word mem a) (store_word mem (word_base a) v) mem

unfoldable pub byte_in : List ℕ → ℕ → ℕ
byte_in mem a = get_or mem a 0

-- a stored byte is the low one
unfoldable pub with_byte : List ℕ → ℕ → ℕ → List ℕ
with_byte mem a v = set mem a (v % 256)
