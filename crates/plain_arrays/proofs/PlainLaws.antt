-- The array of a plain machine and its record are inverse to each other. Assumes nothing.
use Prim.Native.Nat.{ℕ}
use mathlib.Core.Path.{◌≡◌, refl}
use mathlib.Core.List.{List}
use lib.ListN.{length}
use Rattle.plain.specs.declared.Plain.{Plain}
use Rattle.plain.specs.Machine.{plain}
use Rattle.arrays.specs.Words.{firsts}
use Rattle.arrays.proofs.Words.{by-firsts}
use Rattle.plain_arrays.specs.PlainArray.{packed, unpacked}
use Rattle.plain_arrays.specs.Places.{plain_word_count}

back_at : (f : ℕ → ℕ) (p : Plain) → unpacked (packed (plain (firsts 15 f) p.a p.flags p.stop p.board)) ≡ plain (firsts 15 f) p.a p.flags p.stop p.board
unfolding packed unpacked
back_at f p = refl

pub plain_back : (p : Plain) → length p.registers ≡ 15 → unpacked (packed p) ≡ p
plain_back p l =
    by-firsts 15 (λ g. unpacked (packed (plain g p.a p.flags p.stop p.board)) ≡ plain g p.a p.flags p.stop p.board)
    (λ f. back_at f p) p.registers l

words-back-at : (f : ℕ → ℕ) → packed (unpacked (firsts plain_word_count f)) ≡ firsts plain_word_count f
unfolding packed unpacked
words-back-at f = refl

pub plain-words-back : (words : List ℕ) → length words ≡ plain_word_count → packed (unpacked words) ≡ words
plain-words-back = by-firsts plain_word_count (λ words. packed (unpacked words) ≡ words) words-back-at
