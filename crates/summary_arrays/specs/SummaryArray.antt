-- A summary of stores as an array of words, and back: eleven counts of two words.
use Rattle.std.specs.Prelude.{ℕ, ◌+◌, List, ◌++◌}
use Rattle.link.specs.declared.Times.{Times}
use Rattle.link.specs.declared.Summary.{Summary}
use Rattle.link.specs.Summary.{times, summary}
use Rattle.core_arrays.specs.Counts.{count_words, count_at}

abbrev pub times_words : Times → List ℕ
times_words t = count_words t.first ++ count_words t.last ++ count_words t.least ++ count_words t.greatest

-- words 0 to 5, then 6 to 13 in cycles and 14 to 21 in ticks
unfoldable pub packed : Summary → List ℕ
packed s = count_words s.stores ++ count_words s.bits ++ count_words s.first_bits ++ times_words s.cycles ++ times_words s.ticks

abbrev pub times_at : List ℕ → ℕ → Times
times_at words n = times (count_at words n) (count_at words (n + 2)) (count_at words (n + 4)) (count_at words (n + 6))

unfoldable pub unpacked : List ℕ → Summary
unpacked words = summary (count_at words 0) (count_at words 2) (count_at words 4) (times_at words 6) (times_at words 14)
