-- Part by part. Assumes nothing.
use Rattle.std.proofs.Common.{arith}
use Rattle.rate.specs.Texts.{head}
use Rattle.rate.proofs.Pieces.{three, four, whole}
use Rattle.rate.proofs.Room.{head-length}
use Rattle.rate.proofs.texts.head.Goals as goal

pub returns : goal.returns
unfolding head
returns c =
    whole _ c.new-text.ensures
    (four _ _ _ _ _ c.counted.ensures c.end_lines.ensures c.count_lines.ensures (three _ _ _ _ c.time_lines.ensures c.gap_lines.ensures c.rate_line.ensures))
    (head-length c.args.f.now (omega arith))
