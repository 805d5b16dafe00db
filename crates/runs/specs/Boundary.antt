-- The core that stands for a plain machine between instructions, and the cycles that it is beyond their durations.
use Rattle.std.specs.Prelude.{ℕ, suc, ◌+◌, List, Option, Some, None}
use Rattle.word.specs.Reader.{read_of}
use Rattle.datapath.specs.Counter.{ahead}
use Rattle.memory.specs.Memory.{word_at}
use Rattle.semantics.specs.Duration.{own_steps}
use Rattle.plain.specs.Machine as plain
use Rattle.steps.specs.declared.Phase.{Phase}
use Rattle.steps.specs.declared.Phase.TheVariants.{Step1, Refill1, Refill2, Later}
use Rattle.steps.specs.Steps.{idle}
use Rattle.cycle.specs.declared.Counts.{Counts}
use Rattle.cycle.specs.Machine.{Machine, machine, pipe}

-- the core that stands for a plain machine between instructions, with these counts: about to do step 1 (a boundary, the paper's term)
unfoldable pub boundary : plain.Machine → Counts → Machine
boundary p n =
    let a = p.plain.a in
    let mem = (plain.state_of p).memory in
    machine p.plain.registers (record {
      flags = p.plain.flags;
      pipe = pipe (ahead a 8) (word_at mem (ahead a 4)) (word_at mem a) (word_at mem a);
      phase = Step1;
      latches = idle;
      counts = n;
      stop = 0;
      board = p.plain.board;
    }) p.memory

-- the own steps of the word in IX, in the core's refills
abbrev pub steps_of : Option ℕ → List ℕ → ℕ
steps_of None g = 0
steps_of (Some w) g = 2 + own_steps (read_of w) g

-- the cycles beyond the durations of the instructions done: the start's 2, and the steps under way
abbrev pub lead_in : Phase → Option ℕ → List ℕ → ℕ
lead_in Step1 ix g = 2
lead_in Refill1 ix g = steps_of ix g
lead_in Refill2 ix g = suc (steps_of ix g)
lead_in (Later k) ix g = 3 + k

unfoldable pub lead : Machine → ℕ
lead m = lead_in m.control.phase m.control.pipe.ix m.registers
