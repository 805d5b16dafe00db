-- A start of a good length. Assumes nothing.
use Rattle.std.proofs.Common.{◌∙◌, ap, sym, subst, ◌≡◌, false, ℕ, replicate}
use Rattle.memory.specs.Lengths.{bad_length}
use Rattle.cycle.specs.declared.Control.{Control}
use Rattle.cycle.specs.Machine.{machine}
use Rattle.cycle.specs.Fresh.{fresh_control}
use Rattle.rate.proofs.Whole.{accepted}
use Rattle.rate.proofs.answer.begun.Goals as goal

pub returns-clause-start : goal.returns-clause-start
returns-clause-start c = λ image h.
    ap (λ (d : Control). machine (replicate 15 0) d image) (c.fresh.ensures ∙ ap (λ (n : ℕ). fresh_control 0 0 (record { size = n })) (sym h))
    ∙ accepted image (subst (λ (n : ℕ). bad_length n ≡ false) (sym h) c.requires)
