-- After i bytes their pairs are put. Assumes nothing.
use Rattle.std.proofs.Common.{◌≡◌, take}
use Rattle.text.specs.Output.{put}
use Rattle.intel_hex.specs.Writer.{pairs}
use Rattle.intel_hex.proofs.writer.pairs.Given as goal

abbrev pub invariant-loop-byte : goal.invariant-loop-byte
invariant-loop-byte l = l.text ≡ put l.initial.text (pairs (take l.byte-index l.bytes))
