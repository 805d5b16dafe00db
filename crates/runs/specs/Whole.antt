-- The quick road of a run: where the core stands between two instructions, whole ones by the plain machine's step.
use Rattle.std.specs.Prelude.{ℕ, ◌+◌, ◌-◌, ◌≤◌, ◌≡◌, Bool, true, false, ◌&&◌, List, ltb, leb, eqb, Option, Some, None}
use Rattle.bits.specs.Choice.{pick}
use Rattle.datapath.specs.Counter.{ahead, behind, counters}
use Rattle.memory.specs.Memory.{Memory, memory_of, word_at}
use Rattle.plain.specs.Machine as plain
use Rattle.semantics.specs.declared.Sums.{Sums}
use Rattle.semantics.specs.Sums.{plus, total}
use Rattle.cycle.specs.declared.Control.{Control}
use Rattle.cycle.specs.declared.Counts.{Counts}
use Rattle.memory.specs.Lengths.{most_bytes}
use Rattle.cycle.specs.Machine.{Machine, counts, most_cycles}
use Rattle.cycle.specs.StopFound.{is_step1}
use Rattle.plain.specs.Running.{more_by}
use Rattle.plain.specs.Whole.{Wholes, longest, wholes, going}
use Rattle.runs.specs.Run.{run_from}
use Rattle.runs.specs.Boundary.{boundary}

-- a stretch of a run: the cycles that it used, and where it came to
pub record Stretch : Type 0 where
  pub used : ℕ
  pub machine : Machine

abbrev pub stretch : ℕ → Machine → Stretch
stretch used m = record { used = used; machine = m }

-- n cycles, and s after them
abbrev pub longer : ℕ → Stretch → Stretch
longer n s = stretch (n + s.used) s.machine

-- ---- where whole instructions may begin

abbrev pub same : Option ℕ → Option ℕ → Bool
same (Some v) (Some w) = eqb v w
same (Some v) None = false
same None (Some w) = false
same None None = true

-- no stop held, and nothing latched
abbrev pub clear : Control → Bool
clear c = eqb c.stop 0 && eqb c.latches.address 0 && eqb c.latches.datum 0 && eqb c.latches.base 0

-- a counter, and a length that no start refuses as too long
abbrev pub sized : Control → Bool
sized c = ltb c.pipe.pc counters && leb c.board.size most_bytes

-- the pipe holds what fetches would give now: the word at a, and the one after it
abbrev pub filled : Control → ℕ → Memory → Bool
filled c a mem =
    same c.pipe.ix (word_at mem a)
    && same c.pipe.ir2 (word_at mem a)
    && same c.pipe.ir1 (word_at mem (ahead a 4))

-- about to do step 1, as the boundary core of a plain machine is
unfoldable pub stands : Control → List ℕ → Bool
stands c mem = is_step1 c.phase && clear c && sized c && filled c (behind c.pipe.pc 8) (memory_of c.board mem)

-- ---- whole instructions from there

-- the plain machine of a core that stands there
abbrev pub plainly : Machine → plain.Machine
plainly m =
    let c = m.control in
    going m.registers c.flags (behind c.pipe.pc 8) c.board m.memory

-- counts after k more instructions in u more cycles, which add q
abbrev pub counts_on : ℕ → ℕ → Sums → Counts → Counts
counts_on u k q n = counts (n.cycles + u) (n.retired + k) (plus n.sums q)

-- where whole instructions came to from the boundary core with these counts
abbrev pub reached : Counts → Wholes → Stretch
reached n w = stretch w.used (boundary w.machine (counts_on w.used w.done w.sums n))

-- where the core stands between two instructions and the longest fits: no more of them than the budget has cycles, since each takes one or more
unfoldable pub skipped : ℕ → Machine → Stretch
skipped b m =
    let c = m.control in
    pick (leb longest b && stands c m.memory) (reached c.counts (wholes b b (plainly m))) (stretch 0 m)

-- ---- why the road is a run's

-- a run of this budget from m goes on from where the stretch came to, the counts have room for the rest, and the sums rise by no more than the cycles
pub record Continues (budget : ℕ) (m : Machine) (s : Stretch) : Type 0 where
  pub within : s.used ≤ budget
  pub goes : run_from budget m ≡ more_by s.used (run_from (budget - s.used) s.machine)
  pub room : s.machine.control.counts.cycles + (budget - s.used) ≤ most_cycles
  pub behind : s.machine.control.counts.retired ≤ s.machine.control.counts.cycles
  pub timed : total s.machine.control.counts.sums ≤ total m.control.counts.sums + s.used

pub record QuickRoad : Type 0 where
  -- where a core stands between two instructions, it is the boundary core of the plain machine
  pub standing : (m : Machine) → stands m.control m.memory ≡ true → m ≡ boundary (plainly m) m.control.counts
  -- a run goes on from the boundary after whole instructions
  pub skipping : (b : ℕ) (m : Machine) → m.control.counts.cycles + b ≤ most_cycles → m.control.counts.retired ≤ m.control.counts.cycles → Continues b m (skipped b m)
