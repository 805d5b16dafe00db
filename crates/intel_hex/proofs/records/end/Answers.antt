-- An end record, or an unsound one. Assumes nothing.
use Rattle.std.proofs.Common.{refl, sym, ◌∙◌}
use Rattle.intel_hex.proofs.Heads.{unsound-head, unsound-end, end-head, read-unsound, read-end}
use Rattle.intel_hex.proofs.records.end.Goals as goal
use Rattle.intel_hex.proofs.records.end.Goals.{else-fixed-via-then-fixed+else-sound, else-fixed-via-else-fixed}

pub returns-then-sound : goal.returns-then-sound
returns-then-sound c mem upper k later =
    read-end k upper mem later _ (end-head c.args.h _ c.requires.0 (sym c.fixed.ensures ∙ c.if-fixed.true) (sym c.sound.ensures ∙ c.if-sound.true))

pub returns-else-fixed : goal.returns-else-fixed
returns-else-fixed c mem upper k later =
    elim c.else-fixed.branch [
      | else-fixed-via-then-fixed+else-sound w ↦
          read-unsound k upper mem mem later _ (unsound-head c.args.h _ (sym w.sound.ensures ∙ w.if-sound.false)) refl
      | else-fixed-via-else-fixed w ↦
          read-unsound k upper mem mem later _ (unsound-end c.args.h _ c.requires.0 (sym c.fixed.ensures ∙ w.if-fixed.false)) refl
    ]
