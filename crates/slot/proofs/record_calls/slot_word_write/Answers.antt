use mathlib.Core.Path.{sym, ◌∙◌}
use Rattle.array_calls.proofs.Calling.{no_word_there, its-word}
use Rattle.slot.proofs.record_calls.slot_word_write.Goals as goal

pub returns-then-not-stands_for_record : goal.returns-then-not-stands_for_record
returns-then-not-stands_for_record c = rw c.into.ensures (no_word_there _ (sym c.stands_for_record.ensures ∙ c.if-not-stands_for_record.true))

pub returns-in-Ok : goal.returns-in-Ok
returns-in-Ok c =
    its-word _ c.write.result (sym c.stands_for_record.ensures ∙ c.if-not-stands_for_record.false) c.record_of.ensures c.write.ensures
    (rw c.in-Ok.is)

pub returns-in-Err : goal.returns-in-Err
returns-in-Err c =
    its-word _ c.write.result (sym c.stands_for_record.ensures ∙ c.if-not-stands_for_record.false) c.record_of.ensures c.write.ensures
    (rw (c.in-Err.is, c.into-in-Err.ensures))
