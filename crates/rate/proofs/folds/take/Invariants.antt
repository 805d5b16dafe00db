-- After k turns the first k buffers have them. Assumes nothing.
use Rattle.std.proofs.Common.{◌≡◌, ◌<◌, ◌≤◌, ℕ, length}
use Rattle.link.specs.Fold.{all_taken, Filled}
use Rattle.rate.specs.Folds.{line_at, buffer_at}
use Rattle.rate.proofs.folds.take.Given as goal

abbrev pub invariant-loop-k : goal.invariant-loop-k
invariant-loop-k l = record {
  more : (j : ℕ) → j < l.k → buffer_at l.buffers j ≡ all_taken (line_at l.r j) (buffer_at l.initial.buffers j) l.es;
  filled : (j : ℕ) → j < l.k → Filled (line_at l.r j) (buffer_at l.buffers j);
  size : length l.buffers ≡ 32;
  rest : (j : ℕ) → l.k ≤ j → buffer_at l.buffers j ≡ buffer_at l.initial.buffers j;
}
