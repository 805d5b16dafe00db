-- A piece byte by byte: after i turns its first i bytes are put. Assumes nothing.
use mathlib.Core.Path.{◌≡◌}
use lib.ListN.{take}
use Rattle.text.specs.Output.{put}
use Rattle.text.proofs.Text.literal.Given as goal

abbrev pub invariant-loop-byte : goal.invariant-loop-byte
invariant-loop-byte l = l.self ≡ put l.initial.self (take l.byte-index l.piece)
