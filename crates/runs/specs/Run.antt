-- Cycles, and a run: cycles until the budget is spent or a stop is found.
use Rattle.std.specs.Prelude.{ℕ, zero, suc}
use Rattle.plain.specs.Running.{Ran, Engine, runs}
use Rattle.cycle.specs.Machine.{Machine, machine}
use Rattle.cycle.specs.Cycle.{cycle}
use Rattle.cycle.specs.StopFound.{stop_found}

-- a stop is kept in the core and changes nothing else
abbrev pub holding : Machine → ℕ → Machine
holding m stop =
    let c = m.control in
    machine m.registers (record {
      flags = c.flags;
      pipe = c.pipe;
      phase = c.phase;
      latches = c.latches;
      counts = c.counts;
      stop = stop;
      board = c.board;
    }) m.memory

-- a stop is found before the step 1 that it stops, and held
abbrev pub engine : Engine Machine
engine = record { finds = stop_found; next = cycle; stopped = holding }

-- the core after t cycles
unfoldable pub reach : Machine → ℕ → Machine
reach m zero = m
reach m (suc t) = cycle (reach m t)

-- so many cycles, or fewer and a stop, which takes none
abbrev pub run_from : ℕ → Machine → Ran Machine
run_from n m = runs engine n m
