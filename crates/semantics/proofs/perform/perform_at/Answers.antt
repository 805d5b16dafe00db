use Rattle.std.proofs.Common.{refl, sym, ◌∙◌}
use Rattle.semantics.proofs.Results.{fetched-as, blank-stop}
use Rattle.semantics.proofs.Tallies.{fetched-raises, blank-raises}
use Rattle.semantics.proofs.perform.perform_at.Goals as goal

pub returns-in-None : goal.returns-in-None
returns-in-None c = record {
  told = fetched-as _ (sym c.fetch.ensures ∙ c.in-None.is) (blank-stop _ refl);
  tally = fetched-raises _ _ (sym c.fetch.ensures ∙ c.in-None.is) (blank-raises _ _);
}
