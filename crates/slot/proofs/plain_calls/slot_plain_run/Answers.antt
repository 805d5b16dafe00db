use Rattle.std.proofs.Common.{◌∙◌}
use Rattle.array_calls.proofs.Calling.{plain-ended}
use Rattle.slot.proofs.plain_calls.slot_plain_run.Goals as goal

pub returns : goal.returns
returns c = c.end.ensures _ ∙ plain-ended _ _ _ _ c.unpacked.ensures _ c.run-run.ensures
