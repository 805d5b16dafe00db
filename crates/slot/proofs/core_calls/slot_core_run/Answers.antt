use Rattle.std.proofs.Common.{refl, ◌∙◌}
use Rattle.plain.proofs.Told.{some_number}
use Rattle.array_calls.proofs.Calling.{array-refused, core-ended}
use Rattle.slot.proofs.core_calls.slot_core_run.Goals as goal

pub returns-in-Err : goal.returns-in-Err
returns-in-Err c = rw c.into.ensures (array-refused _ _ _ c.in-Err.ensures (some_number _))

pub returns : goal.returns
returns c = c.end.ensures _ ∙ core-ended _ _ _ _ c.in_default.ensures refl c.unpacked.ensures _ c.run-run.ensures
