-- Stores with what is told of them, by hand: a second road to the summary, the rate, the verdict and the windows.
use Rattle.std.specs.Prelude.{ℕ, ◌*◌, ◌-◌, ◌^◌, ◌≡◌, true, false, Bool, [], ◌∷◌}
use Rattle.link.specs.declared.Store.{Store}
use Rattle.link.specs.declared.Line.{Line}
use Rattle.link.specs.declared.Verdict.{Verdict}
use Rattle.link.specs.Window.{store, window, handed, bad_window}
use Rattle.link.specs.Summary.{times, summary, nothing, noted, summed}
use Rattle.link.specs.Rate.{rate}
use Rattle.link.specs.Buffer.{levels, verdict_of, carries}

-- a word, and a byte, at a tick
abbrev word : ℕ → Store
word tick = store 0 tick 64 4

abbrev byte : ℕ → Store
byte tick = store 0 tick 65 1

-- 1 kb/s on a clock of 1000 ticks a second, so a bit is taken each tick and a level of 1000 is a bit; with one word of buffer, and with two
abbrev one_word : Line
one_word = record { kilobits = 1; clock = 1000; words = 1 }

abbrev two_words : Line
two_words = record { kilobits = 1; clock = 1000; words = 2 }

-- a third of a bit each tick, and a level of 3000 is a bit
abbrev thirds : Line
thirds = record { kilobits = 1; clock = 3000; words = 2 }

abbrev told : ℕ → Bool → ℕ → ℕ → Verdict
told backlog grows overflow tick = record { backlog = backlog; grows = grows; overflow = overflow; overflow_tick = tick }

pub record Marked : Type 0 where
  -- the first store has no gap, cycles and ticks are each told for themselves, and two stores can have one tick
  pub alone : summed nothing (store 10 12 64 4 ∷ []) ≡ summary 1 32 32 (times 10 10 0 0) (times 12 12 0 0)
  pub second : summed nothing (store 10 12 64 4 ∷ store 13 19 64 4 ∷ []) ≡ summary 2 64 32 (times 10 13 3 3) (times 12 19 7 7)
  pub third : summed nothing (store 10 12 64 4 ∷ store 13 19 64 4 ∷ store 17 19 64 4 ∷ []) ≡ summary 3 96 32 (times 10 17 3 4) (times 12 19 0 7)
  -- a byte is 8 bits
  pub bytes : summed nothing (store 1 4 65 1 ∷ store 2 6 64 4 ∷ []) ≡ summary 2 40 8 (times 1 2 1 1) (times 4 6 2 2)
  -- of no store it is nothing, whatever stood there; counts stay at the greatest number
  pub anew : noted (summary 0 9 9 (times 1 2 3 4) (times 5 6 7 8)) (store 10 12 64 4) ≡ summary 1 32 32 (times 10 10 0 0) (times 12 12 0 0)
  pub capped : noted (summary (2 ^ 64 - 1) (2 ^ 64 - 9) 32 (times 1 2 3 4) (times 5 6 7 8)) (store 10 12 64 4)
      ≡ summary (2 ^ 64 - 1) (2 ^ 64 - 1) 32 (times 1 10 3 8) (times 5 12 6 8)
  -- a frame of 17 words in 5,040 ticks of 8 MHz; a tenth of a kb/s, and a bit more; and one store
  pub frame : rate (summary 18 (18 * 32) 32 (times 0 0 0 0) (times 7 5047 0 0)) 8000000 ≡ 8635
  pub tenth : rate (summary 5 132 32 (times 0 0 0 0) (times 7 1007 0 0)) 1000 ≡ 1
  pub bit_more : rate (summary 5 133 32 (times 0 0 0 0) (times 7 1007 0 0)) 1000 ≡ 2
  pub no_rate : rate (summary 1 32 32 (times 5 5 0 0) (times 7 7 0 0)) 1000 ≡ 0
  -- the buffer is empty before the first store, whenever it comes; no store, no backlog
  pub late : levels two_words (word 500 ∷ word 510 ∷ []) ≡ 32000 ∷ 54000 ∷ []
  pub same_tick : levels two_words (word 0 ∷ word 0 ∷ byte 0 ∷ []) ≡ 32000 ∷ 64000 ∷ 72000 ∷ []
  pub no_store : verdict_of one_word [] ≡ told 0 false 0 0
  -- full is no overflow; a bit more is, at its store and tick, and the run goes on
  pub full : verdict_of one_word (word 0 ∷ word 32 ∷ []) ≡ told 32 false 0 0
  pub over : verdict_of one_word (word 0 ∷ word 31 ∷ []) ≡ told 33 true 2 31
  pub goes_on : verdict_of one_word (word 0 ∷ word 31 ∷ word 41 ∷ []) ≡ told 55 true 2 31
  -- it fits and grows; it has grown to its greatest in the first half; of three stores the first half is one
  pub growing : verdict_of two_words (word 0 ∷ word 31 ∷ []) ≡ told 33 true 0 0
  pub grown : verdict_of two_words (word 0 ∷ word 31 ∷ word 95 ∷ word 127 ∷ []) ≡ told 33 false 0 0
  pub odd : verdict_of two_words (word 0 ∷ word 31 ∷ word 95 ∷ []) ≡ told 33 true 0 0
  -- an empty buffer stays empty; 63 bits and two thirds are 64
  pub drained : levels two_words (word 0 ∷ word 1000 ∷ word 1031 ∷ []) ≡ 32000 ∷ 32000 ∷ 33000 ∷ []
  pub rounded_up : verdict_of thirds (word 0 ∷ word 1 ∷ []) ≡ told 64 true 0 0
  -- one that overflows or grows does not carry
  pub carried : carries (told 33 false 0 0) ≡ true
  pub not_over : carries (told 33 false 2 31) ≡ false
  pub not_growing : carries (told 33 true 0 0) ≡ false
  -- stores at both ends of a window, and bytes there
  pub ends : handed (window 64 72) (store 1 1 60 4 ∷ store 2 2 63 1 ∷ store 3 3 64 4 ∷ store 4 4 71 1 ∷ store 5 5 72 4 ∷ []) ≡ store 3 3 64 4 ∷ store 4 4 71 1 ∷ []
  -- off a word, empty, reversed, one word, the whole memory, and a word beyond it
  pub from_off : bad_window (window 62 72) 128 ≡ true
  pub to_off : bad_window (window 64 70) 128 ≡ true
  pub empty : bad_window (window 64 64) 128 ≡ true
  pub reversed : bad_window (window 72 64) 128 ≡ true
  pub one : bad_window (window 64 68) 128 ≡ false
  pub whole : bad_window (window 0 128) 128 ≡ false
  pub beyond : bad_window (window 124 132) 128 ≡ true
