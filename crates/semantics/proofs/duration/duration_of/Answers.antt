use Rattle.std.proofs.Common.{sym, ◌∙◌}
use Rattle.semantics.proofs.WordDurations.{read-lasts, branch-lasts, multiply-lasts, other-lasts}
use Rattle.semantics.proofs.duration.duration_of.Goals as goal

pub returns-in-Branch : goal.returns-in-Branch
returns-in-Branch c = read-lasts _ (sym c.in-Branch.is ∙ c.read.ensures) (branch-lasts _ _ c.with_refills.ensures)

pub returns-in-Multiply : goal.returns-in-Multiply
returns-in-Multiply c = read-lasts _ (sym c.in-Multiply.is ∙ c.read.ensures) (multiply-lasts c.in-Multiply.i _ c.multiply_steps.ensures)

pub returns-in-Other : goal.returns-in-Other
returns-in-Other c =
    read-lasts _ (sym c.in-Other.is ∙ c.read.ensures) (other-lasts _ _)
