use Rattle.refusals.proofs.refill.can_store_counter.Goals as goal

pub returns : goal.returns
returns c s = rw (c.field.ensures, c.can_store.ensures s)
