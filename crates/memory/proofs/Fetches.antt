-- A fetch gives the word inside memory, and blank outside.
-- Assumes nothing.
use native.Mathlib.Omega.{arith}
use borrow.Author.Tests.{lt-ltb, le-ltb}
use Rattle.memory.specs.Memory.{place, limit, word_at}
use Rattle.memory.specs.Fetches.{Fetches}
use Rattle.memory.proofs.ByteLaws.{holds-word, read_held}

pub fetches : Fetches
unfolding word_at limit place
fetches m e whole = record {
  inside = λ a h. rw (lt-ltb a m.board.size (omega arith), read_held m.bytes a (holds-word m.bytes a h whole));
  outside = λ a h. rw (le-ltb a m.board.size (omega arith));
}
