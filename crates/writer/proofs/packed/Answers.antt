use Rattle.std.proofs.Common.{rules, ◌<◌, ◌∙◌}
use Rattle.writer.proofs.Folding.{narrow-next, fold-packed}
use Rattle.writer.proofs.packed.Goals as goal

pub try_fold-requires-clause-callable : goal.try_fold-requires-clause-callable
try_fold-requires-clause-callable c = record {
  at = λ xs t q x u y f e.
      let n : (0 < x.now.1) × (x.now.1 < 32) = narrow-next xs c.iter.result t u x (search rules) y e in search rules;
}

pub returns : goal.returns
returns c =
    let ran = c.try_fold.ensures.ran in
    fold-packed _ (λ p x q r. search rules) ran.1 ran.0 c.iter.result _ _ _ c.try_fold.result ran.4 ran.5 ran.6 (λ d. search rules) (λ x b. search rules)
    ∙ rw c.iter.ensures.rest
