use mathlib.Core.Path.{◌∙◌}
use Rattle.std.proofs.Common.{rules}
use Rattle.summary_arrays.proofs.Filled.{filled}
use Rattle.summary_arrays.proofs.packing.pack.Goals as goal

pub returns : goal.returns
returns c =
    filled _ c.args.words.now (search rules) (c.copy_from_slice.ensures.after ∙ c.count_words.ensures) (c.copy_from_slice-2.ensures.after ∙ c.count_words-2.ensures)
    (c.copy_from_slice-3.ensures.after ∙ c.count_words-3.ensures) (c.copy_from_slice-4.ensures.after ∙ c.times_words.ensures)
    (c.copy_from_slice-5.ensures.after ∙ c.times_words-2.ensures)
