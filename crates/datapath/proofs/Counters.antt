-- The laws of the counter: it stays below 2^26, and keeps to words.
-- Assumes nothing.
use Rattle.std.proofs.Common.{◌≡◌, ℕ, ◌+◌, ◌%◌, ◌^◌, ◌<◌, arith}
use Rattle.datapath.specs.Counter.{ahead, behind, counter}

pub ahead-lt : (a n : ℕ) → ahead a n < 2 ^ 26
unfolding ahead
ahead-lt a n = omega arith

pub ahead-ahead : (a m n : ℕ) → ahead (ahead a m) n ≡ ahead a (m + n)
unfolding ahead
ahead-ahead a m n = omega arith

pub ahead-word : (a : ℕ) → a % 4 ≡ 0 → ahead a 4 % 4 ≡ 0
unfolding ahead
ahead-word a h = omega arith

pub behind-lt : (pc n : ℕ) → behind pc n < 2 ^ 26
unfolding behind
behind-lt pc n = omega arith

pub behind-ahead : (a : ℕ) → a < 2 ^ 26 → behind (ahead a 8) 8 ≡ a
unfolding behind ahead
behind-ahead a h = omega arith

pub ahead-behind : (pc : ℕ) → pc < 2 ^ 26 → ahead (behind pc 8) 8 ≡ pc
unfolding ahead behind
ahead-behind pc h = omega arith

pub counter-lt : (word : ℕ) → counter word < 2 ^ 26
unfolding counter
counter-lt word = omega arith

pub counter-word : (word : ℕ) → counter word % 4 ≡ 0
unfolding counter
counter-word word = omega arith
