-- The loop's invariant: what is left to walk, behind what was looked at, comes to the whole walk.
-- Assumes nothing.
use Rattle.std.proofs.Common.{◌≡◌, ◌+◌, ◌*◌, length}
use Rattle.transfer.specs.Block.{named}
use Rattle.stops.specs.Moves.{moves_from}
use Rattle.stops.specs.Walk.{behind, walk}
use Rattle.stops.proofs.walk.walk.Given as goal

abbrev pub invariant-loop-n : goal.invariant-loop-n
invariant-loop-n l =
    (behind l.looked l.fetched (walk (moves_from (named l._n-iterator.0) l.at) l.load l.a l.board) ≡ walk (moves_from (named l.list) l.first) l.load l.a l.board)
    × (l.looked + length (named l._n-iterator.0) ≡ length (named l.list))
    × (l.at ≡ l.first + 4 * l.looked)
