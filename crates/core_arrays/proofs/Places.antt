-- The layout of a core's array, proved: each name by computing, the registers by one law on a list's first values. Assumes nothing.
use Rattle.std.proofs.Common.{◌≡◌, ℕ, ◌+◌, ◌<◌, List, length, refl, ap, ◌∙◌, zero-add}
use Rattle.pipeline.specs.declared.Core.{Core}
use Rattle.arrays.specs.Words.{at}
use Rattle.arrays.proofs.Words.{firsts_at}
use Rattle.core_arrays.specs.CoreArray.{control_words, packed, unpacked}
use Rattle.core_arrays.specs.Places.{CoreName, Layout, core_word_count, core_place, core_field}
use Rattle.core_arrays.specs.Places as places

all : (c : Core) → length (packed c) ≡ core_word_count
unfolding packed
all c = refl

registers : (c : Core) (k : ℕ) → k < 15 → at (packed c) (core_place places.core_r0 + k) ≡ at c.registers k
unfolding packed
registers c k h = ap (at (packed c)) (zero-add k) ∙ firsts_at 15 (at c.registers) (control_words c.control) k h

fields : (c : Core) (name : CoreName) → at (packed c) (core_place name) ≡ core_field name c
unfolding packed
fields c places.core_r0 = refl
fields c places.core_pc = refl
fields c places.core_flags = refl
fields c places.core_ir1 = refl
fields c places.core_ir1_valid = refl
fields c places.core_ir2 = refl
fields c places.core_ir2_valid = refl
fields c places.core_ix = refl
fields c places.core_ix_valid = refl
fields c places.core_phase = refl
fields c places.core_address = refl
fields c places.core_datum = refl
fields c places.core_base = refl
fields c places.core_cycles = refl
fields c places.core_cycles_high = refl
fields c places.core_retired = refl
fields c places.core_retired_high = refl
fields c places.core_stop = refl
fields c places.core_length = refl
fields c places.core_sum_n = refl
fields c places.core_sum_n_high = refl
fields c places.core_sum_s = refl
fields c places.core_sum_s_high = refl
fields c places.core_sum_i = refl
fields c places.core_sum_i_high = refl

core_memory_length : (words : List ℕ) → (unpacked words).control.board.size ≡ at words (core_place places.core_length)
unfolding unpacked
core_memory_length words = refl

pub laid_out : Layout
laid_out = record {
  all = all;
  registers = registers;
  fields = fields;
  phases = refl;
  memory_length = λ words. refl;
  core_memory_length = core_memory_length;
}
