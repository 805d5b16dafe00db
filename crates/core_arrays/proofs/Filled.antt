-- The groups of a core's words, put into an array of as many words, make its array: nothing of what was there is left. Assumes nothing.
use Rattle.std.proofs.Common.{◌≡◌, ℕ, List, length, set, refl}
use borrow.Rule.Slice.PartMut.{put_mid}
use Rattle.pipeline.specs.declared.Core.{Core}
use Rattle.arrays.specs.Words.{put, firsts, registers_of}
use Rattle.arrays.proofs.Words.{by-firsts}
use Rattle.core_arrays.specs.Phases.{phase_number}
use Rattle.core_arrays.specs.CoreArray.{pipe_words, latch_words, counts_words, sums_words, packed}
use Rattle.core_arrays.specs.Places.{core_word_count}

module _ (c : Core) where
  -- an array that begins with the registers, with each group written over what stood in its place
  abbrev written : List ℕ → List ℕ → ℕ → List ℕ → List ℕ → List ℕ → List ℕ
  written begun pipe phase latches counts sums =
      put_mid 33 6 (set (set (put_mid 27 4 (put_mid 24 3 (set (put_mid 15 8 begun pipe) 23 phase) latches) counts) 31 c.control.stop) 32 c.control.board.size) sums

  abbrev begun : List ℕ → List ℕ
  begun words = put words 0 (registers_of c.registers)

  abbrev all : List ℕ → List ℕ
  all words =
      written (begun words) (pipe_words c.control.flags c.control.pipe) (phase_number c.control.phase)
      (latch_words c.control.latches) (counts_words c.control.counts) (sums_words c.control.counts.sums)

  over-firsts : (f : ℕ → ℕ) → all (firsts core_word_count f) ≡ packed c
  unfolding packed
  over-firsts f = refl

  pub filled : (words : List ℕ) {b p l k u : List ℕ} {n : ℕ} → length words ≡ core_word_count
      → b ≡ begun words → p ≡ pipe_words c.control.flags c.control.pipe → n ≡ phase_number c.control.phase
      → l ≡ latch_words c.control.latches → k ≡ counts_words c.control.counts → u ≡ sums_words c.control.counts.sums → written b p n l k u ≡ packed c
  filled words h a d e g i j = rw (a, d, e, g, i, j) (by-firsts core_word_count (λ w. all w ≡ packed c) over-firsts words h)
