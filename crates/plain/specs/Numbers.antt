-- What a start or a run of the plain machine refuses (paper 01, the two lists of numbers and "Plain machine").
use Rattle.std.specs.Prelude.{ℕ, ◌%◌, Bool, not, ◌||◌, ◌&&◌, ltb, leb, eqb}
use Rattle.datapath.specs.Counter.{counters}
use Rattle.bits.specs.Choice.{pick}
use Rattle.stops.specs.Numbers.{no_word, fetched_word}
use Rattle.plain.specs.declared.Plain.{Plain}
use Rattle.memory.specs.Lengths.{length_refused, bad_length}
use Rattle.plain.specs.Refused.{entry_refused, budget_refused, flags_refused, record_refused, other_memory}

-- the largest budget of a run
abbrev pub most_budget : ℕ
most_budget = 1000000

-- 2: an entry that is not a multiple of 4 or not below the length
abbrev pub bad_entry : ℕ → ℕ → Bool
bad_entry entry n = not (eqb (entry % 4) 0) || not (ltb entry n)

-- 4: flags above 15
abbrev pub bad_flags : ℕ → Bool
bad_flags flags = ltb 15 flags

-- the number that a start of either engine answers, 0 where it is accepted
unfoldable pub start_answer : ℕ → ℕ → ℕ → ℕ
start_answer n entry flags = pick (bad_length n) length_refused (pick (bad_entry entry n) entry_refused (pick (bad_flags flags) flags_refused 0))

-- a stop that a record can hold
abbrev pub is_stop : ℕ → Bool
is_stop stop = eqb stop 0 || (leb no_word stop && leb stop fetched_word)

-- an address that a counter can hold
abbrev pub is_counter : ℕ → Bool
is_counter a = eqb (a % 4) 0 && ltb a counters

-- 11: a bad record
unfoldable pub bad : Plain → Bool
bad p = bad_length p.board.size || not (is_counter p.a) || bad_flags p.flags || not (is_stop p.stop)

-- 3: a budget above 1,000,000
abbrev pub bad_budget : ℕ → Bool
bad_budget n = ltb most_budget n

-- what a run of this record refuses with, or 0: 12, 11, 3
unfoldable pub refusal : Plain → ℕ → ℕ → ℕ
refusal p lent budget = pick (not (eqb lent p.board.size)) other_memory (pick (bad p) record_refused (pick (bad_budget budget) budget_refused 0))
