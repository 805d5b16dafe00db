-- The two digits behind the colon are the count. Assumes nothing.
use Rattle.intel_hex.proofs.Cuts.{count-decoded}
use Rattle.intel_hex.proofs.cut.count_of.Goals as goal

pub returns : goal.returns
returns c =
    let sums = c.in_ok-decode.ensures in
    count-decoded c.args.text.now _ c.if-text-lt3.false c.if-text-ne58.false sums.0 sums.2
