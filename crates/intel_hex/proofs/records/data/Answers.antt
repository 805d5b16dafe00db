-- A data record: unsound, put into memory, of no bytes, or beyond it. Assumes nothing.
use Rattle.std.proofs.Common.{◌≡◌, length, arith, refl, sym, ◌∙◌}
use Rattle.intel_hex.proofs.Heads.{unsound-head, data-head, data-length, read-unsound, read-none, read-beyond, put-inside}
use Rattle.intel_hex.proofs.Over.{part-length}
use Rattle.intel_hex.proofs.records.data.Goals as goal

pub returns-then-sound_in : goal.returns-then-sound_in
returns-then-sound_in c k later =
    let h = c.args.h in
    put-inside k _ _ _ _ h _ _ _ later c.requires.0 c.requires.1 (sym c.sound_in.ensures.answer ∙ c.if-sound_in.true) (omega (arith, c.address.ensures))
    (omega arith) (omega (arith, c.if-end-memory.true)) (c.sound_in.ensures.held c.if-sound_in.true) (omega (arith, c.sound_in.auto.into))

pub returns-then-end-memory : goal.returns-then-end-memory
returns-then-end-memory c k later =
    let long : length c.sound_in.new.into ≡ c.args.h.count = omega (arith, c.sound_in.auto.into) in
    let kept = part-length _ _ _ c.args.memory.now (long ∙ omega arith) (omega (arith, c.if-end-memory.true)) in
    read-unsound k _ _ _ later _ (unsound-head c.args.h _ (sym c.sound_in.ensures.answer ∙ c.if-sound_in.false)) kept

pub returns-then-not-sound : goal.returns-then-not-sound
returns-then-not-sound c k later = read-unsound k _ _ _ later _ (unsound-head c.args.h _ (sym c.sound.ensures ∙ c.if-not-sound.true)) refl

pub returns-then-h-eq0 : goal.returns-then-h-eq0
returns-then-h-eq0 c k later =
    let none = data-length c.args.h _ c.requires.1 ∙ c.if-h-eq0.true in
    read-none k _ _ _ _ later _ (data-head c.args.h _ c.requires.0 (sym c.sound.ensures ∙ c.if-not-sound.false)) none

pub returns : goal.returns
returns c k later =
    let n = data-length c.args.h _ c.requires.1 in
    read-beyond k _ _ _ _ later _ (data-head c.args.h _ c.requires.0 (sym c.sound.ensures ∙ c.if-not-sound.false))
    (λ none. c.if-h-eq0.false (sym n ∙ none)) (omega (arith, n, c.if-end-memory.false, c.address.ensures))
