-- What an accepted start hands back but the registers.
use Rattle.std.specs.Prelude.{ℕ, None}
use Rattle.memory.specs.declared.Board.{Board}
use Rattle.steps.specs.declared.Phase.TheVariants.{Refill1}
use Rattle.semantics.specs.Sums.{no_sums}
use Rattle.steps.specs.Steps.{idle}
use Rattle.cycle.specs.declared.Control.{Control}
use Rattle.cycle.specs.Machine.{pipe, counts}

-- the flags it is given, the entry in PC, all words blank, about to refill
abbrev pub fresh_control : ℕ → ℕ → Board → Control
fresh_control flags entry board = record {
  flags = flags;
  pipe = pipe entry None None None;
  phase = Refill1;
  latches = idle;
  counts = counts 0 0 no_sums;
  stop = 0;
  board = board;
}
