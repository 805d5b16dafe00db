use Rattle.std.proofs.Common.{refl, sym, ◌∙◌}
use Rattle.semantics.proofs.Results.{other-stop, read_as}
use Rattle.semantics.proofs.Tallies.{read-raises, other-raises, multiply-raises}
use Rattle.semantics.proofs.perform.execute.Goals as goal

pub returns-in-Other-clause-told : goal.returns-in-Other-clause-told
returns-in-Other-clause-told c =
    read_as _ (sym c.in-Other.is ∙ c.read.ensures) (other-stop _ _ refl)

pub returns-in-Other-clause-tally : goal.returns-in-Other-clause-tally
returns-in-Other-clause-tally c = read-raises _ _ (sym c.in-Other.is ∙ c.read.ensures) (other-raises _ _ _)

pub returns-in-Multiply-clause-tally : goal.returns-in-Multiply-clause-tally
returns-in-Multiply-clause-tally c = read-raises _ _ (sym c.in-Multiply.is ∙ c.read.ensures) (multiply-raises _ _ _)
