-- A record of the upper half of addresses, or an unsound one. Assumes nothing.
use Rattle.std.proofs.Common.{refl, ap, sym, ◌∙◌}
use Rattle.intel_hex.specs.Record.{Upper}
use Rattle.intel_hex.proofs.Heads.{unsound-head, unsound-upper, upper-head, read-unsound, read-upper}
use Rattle.intel_hex.proofs.records.upper_half.Goals as goal

pub returns-then-not-fixed : goal.returns-then-not-fixed
returns-then-not-fixed c mem upper k later =
    read-unsound k upper mem mem later _ (unsound-upper c.args.h _ c.requires.0 (sym c.fixed.ensures ∙ c.if-not-fixed.true)) refl

pub returns-then-not-sound_in : goal.returns-then-not-sound_in
returns-then-not-sound_in c mem upper k later = read-unsound k upper mem mem later _ (unsound-head c.args.h _ (sym c.sound_in.ensures.answer ∙ c.if-not-sound_in.true)) refl

pub returns : goal.returns
returns c mem upper k later =
    let r = upper-head c.args.h _ _ c.requires.0 (sym c.fixed.ensures ∙ c.if-not-fixed.false) (sym c.sound_in.ensures.answer ∙ c.if-not-sound_in.false)
    (c.sound_in.ensures.held c.if-not-sound_in.false) in
    read-upper k upper _ mem later _ (r ∙ ap Upper (sym c.from_be_bytes.ensures ∙ sym c.from.ensures))
