-- The words of a plain machine, put into an array of as many words, make its array: nothing of what was there is left. Assumes nothing.
use Prim.Native.Nat.{ℕ}
use mathlib.Core.Path.{◌≡◌, refl, ap, ◌∙◌}
use mathlib.Core.List.{List}
use lib.ListN.{length}
use Rattle.plain.specs.declared.Plain.{Plain}
use Rattle.arrays.specs.Words.{put, firsts, registers_of}
use Rattle.arrays.proofs.Words.{by-firsts}
use Rattle.plain_arrays.specs.PlainArray.{other_words, packed}
use Rattle.plain_arrays.specs.Places.{plain_word_count}

over-firsts : (f : ℕ → ℕ) (p : Plain) → put (put (firsts plain_word_count f) 0 (registers_of p.registers)) 15 (other_words p) ≡ packed p
unfolding packed
over-firsts f p = refl

pub filled : (words : List ℕ) (p : Plain) {begun : List ℕ} → length words ≡ plain_word_count → begun ≡ put words 0 (registers_of p.registers) → put begun 15 (other_words p) ≡ packed p
filled words p l e =
    ap (λ (w : List ℕ). put w 15 (other_words p)) e
    ∙ by-firsts plain_word_count (λ w. put (put w 0 (registers_of p.registers)) 15 (other_words p) ≡ packed p) (λ f. over-firsts f p) words l
