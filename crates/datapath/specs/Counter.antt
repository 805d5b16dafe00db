-- The program counter and the words of R15 (paper 01, "R15 read").
use Rattle.std.specs.Prelude.{ℕ, ◌+◌, ◌-◌, ◌*◌, ◌/◌, ◌%◌, ◌^◌}

-- how many values a counter has
abbrev pub counters : ℕ
counters = 2 ^ 26

-- counter values are modulo 2^26
unfoldable pub ahead : ℕ → ℕ → ℕ
ahead a n = (a + n) % counters

-- the address of the instruction that is n bytes behind the counter: 8 in step 1, 12 in a later step
unfoldable pub behind : ℕ → ℕ → ℕ
behind pc n = (pc + (counters - n)) % counters

-- bits 25..2 of a word, at their places
abbrev pub counter_bits : ℕ → ℕ
counter_bits word = word / 4 % 2 ^ 24 * 4

-- the counter that a word stores: its bits 25..2
unfoldable pub counter : ℕ → ℕ
counter word = counter_bits word

-- an R15 word: flags in bits 31..28 with bits 25..2 of a counter value, and 0 in the other four
unfoldable pub r15_word : ℕ → ℕ → ℕ
r15_word flags a = flags % 16 * 2 ^ 28 + counter_bits a
