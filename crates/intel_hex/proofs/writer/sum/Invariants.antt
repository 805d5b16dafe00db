-- After i bytes it is their sum. Assumes nothing.
use Rattle.std.proofs.Common.{◌≡◌, ◌%◌, take, sum}
use Rattle.intel_hex.proofs.writer.sum.Given as goal

abbrev pub invariant-loop-byte : goal.invariant-loop-byte
invariant-loop-byte l = l.sum ≡ sum (take l.byte-index l.bytes) % 256
