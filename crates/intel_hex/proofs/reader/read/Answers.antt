-- Refused for its length, for a line, or read. Assumes nothing.
use Rattle.std.proofs.Common.{ap, sym, ◌∙◌}
use Rattle.intel_hex.specs.Numbers.{number_of, line_of}
use Rattle.intel_hex.specs.Reader.{answered, refused}
use Rattle.intel_hex.proofs.Reading.{refused-length, read-lines}
use Rattle.intel_hex.proofs.reader.read.Goals as goal

pub returns-then-length_is_bad : goal.returns-then-length_is_bad
returns-then-length_is_bad c = sym (refused-length _ _ (sym c.length_is_bad.ensures ∙ c.if-length_is_bad.true))

pub returns-in-Err : goal.returns-in-Err
returns-in-Err c =
    let lines = read-lines _ _ _ (sym c.length_is_bad.ensures ∙ c.if-length_is_bad.false) (c.fill.ensures.after (λ y e. e)) in
    ap (answered _ _) c.cleared.ensures.memory ∙ ap (λ r. refused (number_of r) (line_of r) c.read_lines.new.memory) c.cleared.ensures.refusal
    ∙ c.in-Err.ensures ∙ sym lines

pub returns-in-Ok : goal.returns-in-Ok
returns-in-Ok c =
    let lines = read-lines _ _ _ (sym c.length_is_bad.ensures ∙ c.if-length_is_bad.false) (c.fill.ensures.after (λ y e. e)) in
    c.in-Ok.ensures ∙ sym lines
