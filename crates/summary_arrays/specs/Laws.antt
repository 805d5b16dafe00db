-- The array of a summary and the summary are inverse to each other: every array of words stands for a summary, and for no other's.
use Rattle.std.specs.Prelude.{ℕ, ◌≡◌, ◌<◌, ◌^◌, List, length}
use Rattle.arrays.specs.Words.{at}
use Rattle.link.specs.declared.Summary.{Summary}
use Rattle.link.specs.Summary.{nothing}
use Rattle.summary_arrays.specs.SummaryArray.{packed, unpacked}
use Rattle.summary_arrays.specs.Places.{rate_word_count}

pub record Inverse : Type 0 where
  pub summary : (s : Summary) → unpacked (packed s) ≡ s
  pub words : (words : List ℕ) → length words ≡ rate_word_count → ((k : ℕ) → at words k < 2 ^ 32) → packed (unpacked words) ≡ words
  -- an array all 0 is the summary of no stores
  pub zeros : (words : List ℕ) → ((k : ℕ) → at words k ≡ 0) → unpacked words ≡ nothing
