use mathlib.Core.Path.{sym, ap, ◌∙◌}
use Rattle.word.specs.Reader.{is_other}
use Rattle.word.proofs.Tables.{field-whole}
use Rattle.writer.proofs.Theorem.{written_as}
use borrow.Author.Rules.{rules}
use Rattle.writer.proofs.other.Goals as goal

pub returns-then-is_other : goal.returns-then-is_other
returns-then-is_other c =
    let w = c.args.word in
    sym (written_as w _ (ap is_other (sym c.read.ensures) ∙ sym c.is_other.ensures ∙ c.if-is_other.true) (search rules) (field-whole w (search rules), tt))
