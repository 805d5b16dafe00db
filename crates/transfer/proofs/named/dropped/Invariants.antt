-- The loop's invariant: what is left, without the registers still to drop, is what was asked for.
-- Assumes nothing.
use Rattle.std.proofs.Common.{◌≡◌, ◌<◌, ◌-◌, drop}
use Rattle.transfer.specs.Block.{named}
use Rattle.transfer.proofs.named.dropped.Given as goal

abbrev pub invariant-loop-taken : goal.invariant-loop-taken
invariant-loop-taken l = (drop (l.k - l._taken) (named l.left) ≡ drop l.k (named l.list)) × (l.left < 65536)
