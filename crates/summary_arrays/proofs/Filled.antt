-- The groups of a summary's words, put into an array of as many words, make its array: nothing of what was there is left. Assumes nothing.
use Rattle.std.proofs.Common.{◌≡◌, ℕ, List, length, refl}
use borrow.Rule.Slice.PartMut.{put_mid}
use Rattle.link.specs.declared.Summary.{Summary}
use Rattle.arrays.specs.Words.{firsts}
use Rattle.arrays.proofs.Words.{by-firsts}
use Rattle.core_arrays.specs.Counts.{count_words}
use Rattle.summary_arrays.specs.SummaryArray.{times_words, packed}
use Rattle.summary_arrays.specs.Places.{rate_word_count}

module _ (s : Summary) where
  abbrev written : List ℕ → List ℕ → List ℕ → List ℕ → List ℕ → List ℕ → List ℕ
  written words stores bits first_bits cycles ticks =
      put_mid 14 8 (put_mid 6 8 (put_mid 4 2 (put_mid 2 2 (put_mid 0 2 words stores) bits) first_bits) cycles) ticks

  abbrev all : List ℕ → List ℕ
  all words = written words (count_words s.stores) (count_words s.bits) (count_words s.first_bits) (times_words s.cycles) (times_words s.ticks)

  over-firsts : (f : ℕ → ℕ) → all (firsts rate_word_count f) ≡ packed s
  unfolding packed
  over-firsts f = refl

  pub filled : (words : List ℕ) {a b d e g : List ℕ} → length words ≡ rate_word_count → a ≡ count_words s.stores → b ≡ count_words s.bits → d ≡ count_words s.first_bits
      → e ≡ times_words s.cycles → g ≡ times_words s.ticks → written words a b d e g ≡ packed s
  filled words h i j k l m = rw (i, j, k, l, m) (by-firsts rate_word_count (λ w. all w ≡ packed s) over-firsts words h)
