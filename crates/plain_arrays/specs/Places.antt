-- The layout of a plain machine's array as include/slot_core.h numbers it, name by name: a second road to packing, which unpacking cannot mirror.
-- SLOT_PLAIN_A is plain_a here; compare/header holds the table to the header.
use Rattle.std.specs.Prelude.{ℕ, ◌+◌, ◌<◌, ◌≡◌, List, length}
use Rattle.plain.specs.declared.Plain.{Plain}
use Rattle.arrays.specs.Words.{at}
use Rattle.plain_arrays.specs.PlainArray.{packed, unpacked}

-- how many words the array has
abbrev pub plain_word_count : ℕ
plain_word_count = 19

-- the place of each named word, and what stands there
pub data PlainName : Type 0 where
  plain_r0 : PlainName
  plain_a : PlainName
  plain_flags : PlainName
  plain_stop : PlainName
  plain_length : PlainName

abbrev pub plain_place : PlainName → ℕ
plain_place plain_r0 = 0
plain_place plain_a = 15
plain_place plain_flags = 16
plain_place plain_stop = 17
plain_place plain_length = 18

abbrev pub plain_field : PlainName → Plain → ℕ
plain_field plain_r0 p = at p.registers 0
plain_field plain_a p = p.a
plain_field plain_flags p = p.flags
plain_field plain_stop p = p.stop
plain_field plain_length p = p.board.size

pub record Layout : Type 0 where
  pub all : (p : Plain) → length (packed p) ≡ plain_word_count
  -- R0 to R14, and each other word at its name's place
  pub registers : (p : Plain) (k : ℕ) → k < 15 → at (packed p) (plain_place plain_r0 + k) ≡ at p.registers k
  pub fields : (p : Plain) (name : PlainName) → at (packed p) (plain_place name) ≡ plain_field name p
  -- what a run compares with the length of the memory that it is lent
  pub memory_length : (words : List ℕ) → (unpacked words).board.size ≡ at words (plain_place plain_length)
