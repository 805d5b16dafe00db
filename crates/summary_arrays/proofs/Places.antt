-- The layout of a summary's array, proved: each name by computing. Assumes nothing.
use Rattle.std.proofs.Common.{◌≡◌, length, refl}
use Rattle.link.specs.declared.Summary.{Summary}
use Rattle.arrays.specs.Words.{at}
use Rattle.summary_arrays.specs.SummaryArray.{packed}
use Rattle.summary_arrays.specs.Places.{RateName, Layout, rate_word_count, rate_place, rate_field}
use Rattle.summary_arrays.specs.Places as places

all : (s : Summary) → length (packed s) ≡ rate_word_count
unfolding packed
all s = refl

fields : (s : Summary) (name : RateName) → at (packed s) (rate_place name) ≡ rate_field name s
unfolding packed
fields s places.rate_stores = refl
fields s places.rate_stores_high = refl
fields s places.rate_bits = refl
fields s places.rate_bits_high = refl
fields s places.rate_first_bits = refl
fields s places.rate_first_bits_high = refl
fields s places.rate_first_cycle = refl
fields s places.rate_first_cycle_high = refl
fields s places.rate_last_cycle = refl
fields s places.rate_last_cycle_high = refl
fields s places.rate_least_gap_cycles = refl
fields s places.rate_least_gap_cycles_high = refl
fields s places.rate_greatest_gap_cycles = refl
fields s places.rate_greatest_gap_cycles_high = refl
fields s places.rate_first_tick = refl
fields s places.rate_first_tick_high = refl
fields s places.rate_last_tick = refl
fields s places.rate_last_tick_high = refl
fields s places.rate_least_gap_ticks = refl
fields s places.rate_least_gap_ticks_high = refl
fields s places.rate_greatest_gap_ticks = refl
fields s places.rate_greatest_gap_ticks_high = refl

pub laid_out : Layout
laid_out = record { all = all; fields = fields }
