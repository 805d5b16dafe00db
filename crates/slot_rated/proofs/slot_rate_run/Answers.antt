use Rattle.std.proofs.Common.{refl, ◌∙◌}
use Rattle.plain.proofs.Told.{some_number}
use Rattle.slot_rated.proofs.RateCalling.{rate-array-refused, rate-ended}
use Rattle.slot_rated.proofs.slot_rate_run.Goals as goal

pub returns-in-Err : goal.returns-in-Err
returns-in-Err c = rw c.into.ensures (rate-array-refused _ _ _ _ _ c.in-Err.ensures (some_number _))

pub returns : goal.returns
returns c = c.rate_end.ensures _ ∙ rate-ended _ _ _ _ _ _ c.in_default.ensures refl c.unpacked.ensures c.unpacked-2.ensures _ c.rate_run-run.ensures
