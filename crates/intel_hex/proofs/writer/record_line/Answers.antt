-- The pieces of a record's line are its line. Assumes nothing.
use Rattle.std.proofs.Common.{◌≡◌, ◌∷◌, [], length, get_or, ap, arith}
use Rattle.intel_hex.specs.Writer.{record_line}
use Rattle.intel_hex.proofs.Written.{record-built, sum-built, record-length}
use Rattle.intel_hex.proofs.writer.record_line.Goals as goal

pub returns : goal.returns
returns c =
    let bytes = c.args.bytes.now in
    let head = length bytes ∷ get_or c.to_be_bytes.result 0 0 ∷ get_or c.to_be_bytes.result 1 0 ∷ c.args.kind ∷ [] in
    let built : c.literal-2.new.self ≡ record_line c.args.kind c.args.address bytes =
    record-built c.args.kind c.args.address bytes c.new-text.ensures c.literal.ensures c.pairs.ensures c.pairs-2.ensures c.pairs-3.ensures c.literal-2.ensures c.requires
    (ap (λ x. length bytes ∷ get_or x 0 0 ∷ get_or x 1 0 ∷ c.args.kind ∷ []) c.to_be_bytes.ensures)
    (sum-built head bytes c.sum.result c.sum-2.result c.sum.ensures c.sum-2.ensures) in
    let long = ap length built in
    let n = record-length c.args.kind c.args.address bytes in
    record { value = built; upper_bound = omega (arith, long, n, c.requires) }
