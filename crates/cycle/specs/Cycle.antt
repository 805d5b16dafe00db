-- A cycle: what the phase does, the fetch, and the one place where the next core is built (paper 01, "Pipeline").
use Rattle.std.specs.Prelude.{ℕ, suc, Option, Some, None}
use Rattle.word.specs.Reader.{read_of}
use Rattle.datapath.specs.Counter.{ahead, counter}
use Rattle.memory.specs.Memory.{Memory, word_at}
use Rattle.semantics.specs.declared.Sums.{Sums}
use Rattle.semantics.specs.Sums.{no_sums, plus, start_sums, skipped_sums, sums_of}
use Rattle.stops.specs.Stops.{Due, no_word_there, skipped, executes, due}
use Rattle.steps.specs.declared.Phase.{Phase}
use Rattle.steps.specs.declared.Phase.TheVariants.{Step1, Refill1, Refill2, Later}
use Rattle.steps.specs.declared.Ended.{Ended}
use Rattle.steps.specs.declared.Ended.TheVariants.{Start, Skipped, Executed}
use Rattle.steps.specs.declared.After.{After}
use Rattle.steps.specs.declared.After.TheVariants.{More, Done, Jump}
use Rattle.steps.specs.Steps.{Own, own, still, first_step, later_step}
use Rattle.cycle.specs.declared.Pipe.{Pipe}
use Rattle.cycle.specs.declared.Counts.{Counts}
use Rattle.cycle.specs.declared.Control.{Control}
use Rattle.cycle.specs.Machine.{Machine, machine, lent, pipe, counts}

-- a refill with IX blank is the start's; no multiply has a refill, so that m is 0
abbrev pub refilled : Option ℕ → Ended
refilled None = Start
refilled (Some w) = Executed 0

-- how a failed condition ends, at A+8 in PC: its one step is done, and the counter goes on
abbrev pub skips : ℕ → After
skips pc = Done Skipped

-- a cycle that does nothing of its own
abbrev pub quiet : Machine → After → Own
quiet m e = own m.registers (still m.control.flags e) (lent m)

-- step 1; the one step of a failed condition does nothing. Where IX is blank no run does this cycle (21), nor a later step (11)
abbrev pub first_due : Due → Machine → Own
first_due no_word_there m = quiet m (Done Start)
first_due skipped m = quiet m (skips m.control.pipe.pc)
first_due (executes i) m = first_step i m.registers m.control.flags m.control.pipe.pc (lent m)

-- step k + 2 of the word in IX
abbrev pub later_of : ℕ → Option ℕ → Machine → Own
later_of k None m = quiet m (Done Start)
later_of k (Some w) m = later_step (read_of w) k m.registers m.control.flags m.control.pipe.pc m.control.latches (lent m)

-- what the cycle of this phase does besides the fetch
unfoldable pub own_of : Phase → Machine → Own
own_of Refill1 m = quiet m (More Refill2)
own_of Refill2 m = quiet m (Done (refilled m.control.pipe.ix))
own_of Step1 m = first_due (due m.control.pipe.ix m.control.flags) m
own_of (Later k) m = later_of k m.control.pipe.ix m

-- IR2 becomes IR1, IR1 the word at PC, PC+4
abbrev pub fetch : Pipe → Memory → Pipe
fetch p mem = pipe (ahead p.pc 4) (word_at mem p.pc) p.ir1 p.ix

-- it runs in step 1 and both refills
abbrev pub fetches : Phase → Pipe → Memory → Pipe
fetches Step1 p mem = fetch p mem
fetches Refill1 p mem = fetch p mem
fetches Refill2 p mem = fetch p mem
fetches (Later k) p mem = p

-- a stored counter replaces PC. After the last cycle IX takes the old IR1 if there was a fetch, else IR2: each time what IR2 is now
abbrev pub pipe_after : After → Pipe → Pipe
pipe_after (More ph) p = p
pipe_after (Done e) p = pipe p.pc p.ir1 p.ir2 p.ir2
pipe_after (Jump word) p = pipe (counter word) p.ir1 p.ir2 p.ix

abbrev pub phase_after : After → Phase
phase_after (More ph) = ph
phase_after (Done e) = Step1
phase_after (Jump word) = Refill1

-- an instruction is retired in its last cycle; a start retires nothing
abbrev pub retired_by : After → ℕ → ℕ
retired_by (More ph) k = k
retired_by (Done Start) k = k
retired_by (Done Skipped) k = suc k
retired_by (Done (Executed m)) k = suc k
retired_by (Jump word) k = k

-- the sums of what ended, with the word of an instruction that was executed in IX
abbrev pub ended_sums : Ended → Option ℕ → Sums
ended_sums Start x = start_sums
ended_sums Skipped x = skipped_sums
ended_sums (Executed m) (Some w) = sums_of (read_of w) m
ended_sums (Executed m) None = no_sums

-- they are added there and nowhere else (paper 02, §3)
abbrev pub sums_after : After → Option ℕ → Sums → Sums
sums_after (More ph) x q = q
sums_after (Done e) x q = plus q (ended_sums e x)
sums_after (Jump word) x q = q

abbrev pub counts_after : After → Option ℕ → Counts → Counts
counts_after e x n = counts (suc n.cycles) (retired_by e n.retired) (sums_after e x n.sums)

-- the next core: what the cycle did, the pipe after its fetch, and the counts
abbrev pub close : Own → Pipe → Control → Machine
close o p c =
    let e = o.step.after in
    machine o.registers (record {
      flags = o.step.flags;
      pipe = pipe_after e p;
      phase = phase_after e;
      latches = o.step.latches;
      counts = counts_after e c.pipe.ix c.counts;
      stop = c.stop;
      board = c.board;
    }) o.memory.bytes

unfoldable pub cycle : Machine → Machine
cycle m =
    let ph = m.control.phase in
    close (own_of ph m) (fetches ph m.control.pipe (lent m)) m.control
