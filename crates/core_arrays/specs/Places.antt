-- The layout of a core's array as include/slot_core.h numbers it, name by name: a second road to packing, which unpacking cannot mirror.
-- SLOT_CORE_IR1_VALID is core_ir1_valid here; compare/header holds the table to the header.
use Rattle.std.specs.Prelude.{◌≡◌, ℕ, ◌+◌, ◌/◌, ◌%◌, ◌^◌, ◌<◌, List, [], ◌∷◌, length}
use Rattle.steps.specs.declared.Phase.TheVariants.{Step1, Refill1, Refill2, Later}
use Rattle.pipeline.specs.declared.Core.{Core}
use Rattle.arrays.specs.Words.{at}
use Rattle.core_arrays.specs.Fetched.{word_in, validity}
use Rattle.core_arrays.specs.Phases.{phase_number}
use Rattle.core_arrays.specs.CoreArray.{packed, unpacked, length_in}

-- how many words the array has
abbrev pub core_word_count : ℕ
core_word_count = 39

-- the place of each named word, and what stands there
pub data CoreName : Type 0 where
  core_r0 : CoreName
  core_pc : CoreName
  core_flags : CoreName
  core_ir1 : CoreName
  core_ir1_valid : CoreName
  core_ir2 : CoreName
  core_ir2_valid : CoreName
  core_ix : CoreName
  core_ix_valid : CoreName
  core_phase : CoreName
  core_address : CoreName
  core_datum : CoreName
  core_base : CoreName
  core_cycles : CoreName
  core_cycles_high : CoreName
  core_retired : CoreName
  core_retired_high : CoreName
  core_stop : CoreName
  core_length : CoreName
  core_sum_n : CoreName
  core_sum_n_high : CoreName
  core_sum_s : CoreName
  core_sum_s_high : CoreName
  core_sum_i : CoreName
  core_sum_i_high : CoreName

abbrev pub core_place : CoreName → ℕ
core_place core_r0 = 0
core_place core_pc = 15
core_place core_flags = 16
core_place core_ir1 = 17
core_place core_ir1_valid = 18
core_place core_ir2 = 19
core_place core_ir2_valid = 20
core_place core_ix = 21
core_place core_ix_valid = 22
core_place core_phase = 23
core_place core_address = 24
core_place core_datum = 25
core_place core_base = 26
core_place core_cycles = 27
core_place core_cycles_high = 28
core_place core_retired = 29
core_place core_retired_high = 30
core_place core_stop = 31
core_place core_length = 32
core_place core_sum_n = 33
core_place core_sum_n_high = 34
core_place core_sum_s = 35
core_place core_sum_s_high = 36
core_place core_sum_i = 37
core_place core_sum_i_high = 38

abbrev pub core_field : CoreName → Core → ℕ
core_field core_r0 c = at c.registers 0
core_field core_pc c = c.control.pipe.pc
core_field core_flags c = c.control.flags
core_field core_ir1 c = word_in c.control.pipe.ir1
core_field core_ir1_valid c = validity c.control.pipe.ir1
core_field core_ir2 c = word_in c.control.pipe.ir2
core_field core_ir2_valid c = validity c.control.pipe.ir2
core_field core_ix c = word_in c.control.pipe.ix
core_field core_ix_valid c = validity c.control.pipe.ix
core_field core_phase c = phase_number c.control.phase
core_field core_address c = c.control.latches.address
core_field core_datum c = c.control.latches.datum
core_field core_base c = c.control.latches.base
core_field core_cycles c = c.control.counts.cycles % 2 ^ 32
core_field core_cycles_high c = c.control.counts.cycles / 2 ^ 32
core_field core_retired c = c.control.counts.retired % 2 ^ 32
core_field core_retired_high c = c.control.counts.retired / 2 ^ 32
core_field core_stop c = c.control.stop
core_field core_length c = c.control.board.size
core_field core_sum_n c = c.control.counts.sums.n % 2 ^ 32
core_field core_sum_n_high c = c.control.counts.sums.n / 2 ^ 32
core_field core_sum_s c = c.control.counts.sums.s % 2 ^ 32
core_field core_sum_s_high c = c.control.counts.sums.s / 2 ^ 32
core_field core_sum_i c = c.control.counts.sums.i % 2 ^ 32
core_field core_sum_i_high c = c.control.counts.sums.i / 2 ^ 32

pub record Layout : Type 0 where
  pub all : (c : Core) → length (packed c) ≡ core_word_count
  -- R0 to R14, and each other word at its name's place
  pub registers : (c : Core) (k : ℕ) → k < 15 → at (packed c) (core_place core_r0 + k) ≡ at c.registers k
  pub fields : (c : Core) (name : CoreName) → at (packed c) (core_place name) ≡ core_field name c
  -- 0 step 1, 1 and 2 the refills, 3 and up steps 2 and up
  pub phases : phase_number Step1 ∷ phase_number Refill1 ∷ phase_number Refill2 ∷ phase_number (Later 0) ∷ phase_number (Later 1) ∷ [] ≡ 0 ∷ 1 ∷ 2 ∷ 3 ∷ 4 ∷ []
  -- what a run compares with the length of the memory that it is lent
  pub memory_length : (words : List ℕ) → length_in words ≡ at words (core_place core_length)
  pub core_memory_length : (words : List ℕ) → (unpacked words).control.board.size ≡ at words (core_place core_length)
