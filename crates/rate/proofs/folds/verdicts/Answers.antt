-- A turn. Assumes nothing.
use Rattle.std.proofs.Common.{ap, sym, ◌∙◌, ◌≡◌, ℕ, arith, set, List}
use Rattle.link.specs.declared.Line.{Line}
use Rattle.link.specs.declared.Verdict.{Verdict}
use Rattle.link.specs.Buffer.{verdict_of}
use Rattle.link.specs.Fold.{empty, all_taken}
use Rattle.rate.specs.Request.{line_of}
use Rattle.rate.specs.Folds.{line_at}
use Rattle.rate.proofs.Lists.{told-more}
use Rattle.rate.proofs.folds.verdicts.Goals as goal

pub loop-k-preserved : goal.loop-k-preserved
loop-k-preserved c = λ es taken.
    let r = c.args.r.now in
    let k = c.loop-k.k in
    let v : c.verdict.result ≡ verdict_of (line_at r k) es = c.verdict.ensures es (taken k c.loop-k-test.true ∙ ap (λ (o : Line). all_taken o empty es) (sym c.line_at.ensures)) ∙ ap (λ (o : Line). verdict_of o es) c.line_at.ensures in
    ap (λ (vs : List Verdict). set vs k c.verdict.result) (c.loop-k.invariant es taken)
    ∙ told-more (λ (option : ℕ). verdict_of (line_of r option) es) r.options k c.verdict.result (omega (arith, c.loop-k-test.true, c.requires.count)) (omega arith) v
