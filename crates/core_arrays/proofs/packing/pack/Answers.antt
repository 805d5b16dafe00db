use mathlib.Core.Path.{◌∙◌}
use Rattle.std.proofs.Common.{rules}
use Rattle.core_arrays.proofs.Filled.{filled}
use Rattle.core_arrays.proofs.packing.pack.Goals as goal

pub returns : goal.returns
returns c =
    filled _ c.args.words.now (search rules) c.put_registers.ensures (c.copy_from_slice.ensures.after ∙ c.pipe_words.ensures) c.phase_number.ensures
    (c.copy_from_slice-2.ensures.after ∙ c.latch_words.ensures) (c.copy_from_slice-3.ensures.after ∙ c.counts_words.ensures)
    (c.copy_from_slice-4.ensures.after ∙ c.sums_words.ensures)
