-- The layout of a summary's array as include/slot_core.h numbers it, name by name: a second road to packing, which unpacking cannot mirror.
-- SLOT_RATE_STORES is rate_stores here; compare/header holds the table to the header.
use Rattle.std.specs.Prelude.{◌≡◌, ℕ, ◌/◌, ◌%◌, ◌^◌, length}
use Rattle.link.specs.declared.Summary.{Summary}
use Rattle.arrays.specs.Words.{at}
use Rattle.summary_arrays.specs.SummaryArray.{packed}

-- how many words the array has: SLOT_RATE
abbrev pub rate_word_count : ℕ
rate_word_count = 22

-- the place of each named word, and what stands there
pub data RateName : Type 0 where
  rate_stores : RateName
  rate_stores_high : RateName
  rate_bits : RateName
  rate_bits_high : RateName
  rate_first_bits : RateName
  rate_first_bits_high : RateName
  rate_first_cycle : RateName
  rate_first_cycle_high : RateName
  rate_last_cycle : RateName
  rate_last_cycle_high : RateName
  rate_least_gap_cycles : RateName
  rate_least_gap_cycles_high : RateName
  rate_greatest_gap_cycles : RateName
  rate_greatest_gap_cycles_high : RateName
  rate_first_tick : RateName
  rate_first_tick_high : RateName
  rate_last_tick : RateName
  rate_last_tick_high : RateName
  rate_least_gap_ticks : RateName
  rate_least_gap_ticks_high : RateName
  rate_greatest_gap_ticks : RateName
  rate_greatest_gap_ticks_high : RateName

abbrev pub rate_place : RateName → ℕ
rate_place rate_stores = 0
rate_place rate_stores_high = 1
rate_place rate_bits = 2
rate_place rate_bits_high = 3
rate_place rate_first_bits = 4
rate_place rate_first_bits_high = 5
rate_place rate_first_cycle = 6
rate_place rate_first_cycle_high = 7
rate_place rate_last_cycle = 8
rate_place rate_last_cycle_high = 9
rate_place rate_least_gap_cycles = 10
rate_place rate_least_gap_cycles_high = 11
rate_place rate_greatest_gap_cycles = 12
rate_place rate_greatest_gap_cycles_high = 13
rate_place rate_first_tick = 14
rate_place rate_first_tick_high = 15
rate_place rate_last_tick = 16
rate_place rate_last_tick_high = 17
rate_place rate_least_gap_ticks = 18
rate_place rate_least_gap_ticks_high = 19
rate_place rate_greatest_gap_ticks = 20
rate_place rate_greatest_gap_ticks_high = 21

abbrev pub rate_field : RateName → Summary → ℕ
rate_field rate_stores s = s.stores % 2 ^ 32
rate_field rate_stores_high s = s.stores / 2 ^ 32
rate_field rate_bits s = s.bits % 2 ^ 32
rate_field rate_bits_high s = s.bits / 2 ^ 32
rate_field rate_first_bits s = s.first_bits % 2 ^ 32
rate_field rate_first_bits_high s = s.first_bits / 2 ^ 32
rate_field rate_first_cycle s = s.cycles.first % 2 ^ 32
rate_field rate_first_cycle_high s = s.cycles.first / 2 ^ 32
rate_field rate_last_cycle s = s.cycles.last % 2 ^ 32
rate_field rate_last_cycle_high s = s.cycles.last / 2 ^ 32
rate_field rate_least_gap_cycles s = s.cycles.least % 2 ^ 32
rate_field rate_least_gap_cycles_high s = s.cycles.least / 2 ^ 32
rate_field rate_greatest_gap_cycles s = s.cycles.greatest % 2 ^ 32
rate_field rate_greatest_gap_cycles_high s = s.cycles.greatest / 2 ^ 32
rate_field rate_first_tick s = s.ticks.first % 2 ^ 32
rate_field rate_first_tick_high s = s.ticks.first / 2 ^ 32
rate_field rate_last_tick s = s.ticks.last % 2 ^ 32
rate_field rate_last_tick_high s = s.ticks.last / 2 ^ 32
rate_field rate_least_gap_ticks s = s.ticks.least % 2 ^ 32
rate_field rate_least_gap_ticks_high s = s.ticks.least / 2 ^ 32
rate_field rate_greatest_gap_ticks s = s.ticks.greatest % 2 ^ 32
rate_field rate_greatest_gap_ticks_high s = s.ticks.greatest / 2 ^ 32

pub record Layout : Type 0 where
  pub all : (s : Summary) → length (packed s) ≡ rate_word_count
  pub fields : (s : Summary) (name : RateName) → at (packed s) (rate_place name) ≡ rate_field name s
