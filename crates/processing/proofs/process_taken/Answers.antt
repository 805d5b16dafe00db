use Rattle.processing.proofs.Parts.{joined-value}
use Rattle.processing.proofs.process_taken.Goals as goal

pub returns : goal.returns
returns c =
    joined-value _ _ _ _ c.register-rn.ensures c.requires (rw (← c.carry_of.ensures) (c.result-value.ensures _ _))
    c.flags_after-f.ensures c.store_result.ensures
