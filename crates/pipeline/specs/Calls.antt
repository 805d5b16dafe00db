-- The calls on a core: start, run, and settle (paper 02, §2).
use Rattle.std.specs.Prelude.{ℕ, ◌+◌, not, List, eqb, ltb, length, replicate, None}
use Rattle.bits.specs.Choice.{pick}
use Rattle.plain.specs.Numbers.{start_answer}
use Rattle.plain.specs.Refused.{record_refused, other_memory, too_many_cycles}
use Rattle.plain.specs.Running.{Ran, Started, ran, started, unless}
use Rattle.steps.specs.declared.Phase.TheVariants.{Step1}
use Rattle.semantics.specs.Sums.{no_sums}
use Rattle.steps.specs.Steps.{idle}
use Rattle.cycle.specs.declared.Control.{Control}
use Rattle.cycle.specs.Machine.{Machine, machine, pipe, counts, most_cycles}
use Rattle.cycle.specs.Fresh.{fresh_control}
use Rattle.refusals.specs.Numbers.{bad, refusal}
use Rattle.runs.specs.Run.{reach, run_from}
use Rattle.runs.specs.CyclesLeft.{cycles_left}
use Rattle.pipeline.specs.declared.Core.{Core}

abbrev pub core : List ℕ → Control → Core
core g c = record { registers = g; control = c }

-- a core with the bytes that it is lent
abbrev pub seen : List ℕ → Core → Machine
seen mem c = machine c.registers c.control mem

-- a zeroed core, its words blank
abbrev pub zeroed : Core
zeroed =
    core (replicate 15 0) (record {
      flags = 0;
      pipe = pipe 0 None None None;
      phase = Step1;
      latches = idle;
      counts = counts 0 0 no_sums;
      stop = 0;
      board = record { size = 0 };
    })

-- start tests 1, 2, 4 and changes no memory
unfoldable pub start : List ℕ → ℕ → ℕ → List ℕ → Started Core
start g flags entry mem =
    let answer = start_answer (length mem) entry flags in
    started answer (pick (eqb answer 0) (core g (fresh_control flags entry (record { size = length mem }))) zeroed)

-- a run that is lent so many bytes, with a budget: refused, or a stop held is repeated, or it goes on
unfoldable pub run : ℕ → ℕ → Machine → Ran Machine
run lent budget m = unless (refusal lent budget m) m (unless m.control.stop m (run_from budget m))

-- what settle refuses with when it is lent so many bytes, or 0: 12, 11, 13, as run does; 13 where the cycles left would pass 2^40
unfoldable pub settle_refusal : ℕ → Machine → ℕ
settle_refusal lent m =
    pick (not (eqb lent m.control.board.size)) other_memory
    (pick (bad m) record_refused
    (pick (ltb most_cycles (m.control.counts.cycles + cycles_left m)) too_many_cycles
    0))

-- the cycles left, whatever stop the word at their end meets
abbrev pub settled : Machine → Ran Machine
settled m = ran 0 (cycles_left m) (reach m (cycles_left m))

-- settle, lent so many bytes: refused, or a stop held is repeated, or the cycles left are done
unfoldable pub settle : ℕ → Machine → Ran Machine
settle lent m = unless (settle_refusal lent m) m (unless m.control.stop m (settled m))
