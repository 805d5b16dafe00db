-- The layout of a plain machine's array, proved: each name by computing, the registers by one law on a list's first values. Assumes nothing.
use Prim.Native.Nat.{ℕ, ◌+◌, ◌<◌}
use native.Mathlib.Nat.{zero-add}
use mathlib.Core.Path.{◌≡◌, refl, ap, ◌∙◌}
use mathlib.Core.List.{List}
use lib.ListN.{length}
use Rattle.plain.specs.declared.Plain.{Plain}
use Rattle.arrays.specs.Words.{at}
use Rattle.arrays.proofs.Words.{firsts_at}
use Rattle.plain_arrays.specs.PlainArray.{other_words, packed, unpacked}
use Rattle.plain_arrays.specs.Places.{PlainName, Layout, plain_word_count, plain_place, plain_field}
use Rattle.plain_arrays.specs.Places as places

all : (p : Plain) → length (packed p) ≡ plain_word_count
unfolding packed
all p = refl

registers : (p : Plain) (k : ℕ) → k < 15 → at (packed p) (plain_place places.plain_r0 + k) ≡ at p.registers k
unfolding packed
registers p k h = ap (at (packed p)) (zero-add k) ∙ firsts_at 15 (at p.registers) (other_words p) k h

fields : (p : Plain) (name : PlainName) → at (packed p) (plain_place name) ≡ plain_field name p
unfolding packed
fields p places.plain_r0 = refl
fields p places.plain_a = refl
fields p places.plain_flags = refl
fields p places.plain_stop = refl
fields p places.plain_length = refl

memory_length : (words : List ℕ) → (unpacked words).board.size ≡ at words (plain_place places.plain_length)
unfolding unpacked
memory_length words = refl

pub laid_out : Layout
laid_out = record { all = all; registers = registers; fields = fields; memory_length = memory_length }
