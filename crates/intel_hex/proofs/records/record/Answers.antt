-- The head is decoded, then the rest. Assumes nothing.
use Rattle.std.proofs.Common.{refl, ap, ◌∙◌, ◌∷◌, arith}
use Rattle.intel_hex.specs.Reader.{read_on}
use Rattle.intel_hex.proofs.Heads.{read-unsound, uncounted, counted-head}
use Rattle.intel_hex.proofs.records.record.Goals as goal

pub returns-in_default : goal.returns-in_default
returns-in_default c k later = read-unsound k _ _ _ later _ (uncounted c.args.count _ c.in_default.ensures) refl

pub returns : goal.returns
returns c k later =
    let sums = c.in-Some.ensures in
    ap (λ r. read_on k c.args.upper c.args.memory.now (r ∷ later)) (counted-head (record { count = c.args.count; high = _; low = _; kind = _ }) c.args.digits.now _ (omega (arith, c.requires)) sums.0 sums.2 refl refl refl) ∙ c.typed.ensures k later
