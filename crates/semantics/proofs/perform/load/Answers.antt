use Rattle.semantics.proofs.Results.{whole, load_done}
use Rattle.semantics.proofs.Tallies.{load-counts}
use Rattle.semantics.proofs.perform.load.Goals as goal

pub returns : goal.returns
returns c = record {
  told =
      rw (← c.single_steps-steps.ensures)
      (load_done _ _ _ c.requires.0 c.requires.1 c.loaded_value-value.ensures c.done.ensures.told (whole c.base_then_register-left.ensures));
  tally = load-counts _ _ _ c.requires.0 c.requires.1 c.loaded_value-value.ensures c.done.ensures.tally c.raise.ensures c.base_then_register-left.ensures.goes;
}
