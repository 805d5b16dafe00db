-- Whole instructions one after the other, with a budget in instructions and one in cycles: what the runs of both machines stand on.
use Rattle.std.specs.Prelude.{ℕ, zero, suc, ◌+◌, ◌-◌, List, leb}
use Rattle.bits.specs.Choice.{pick}
use Rattle.memory.specs.declared.Board.{Board}
use Rattle.stops.specs.Numbers.{held_number}
use Rattle.semantics.specs.declared.Sums.{Sums}
use Rattle.semantics.specs.declared.Tally.{Tally}
use Rattle.semantics.specs.Sums.{no_sums, plus}
use Rattle.semantics.specs.Tally.{told_by}
use Rattle.plain.specs.declared.Came.{Came}
use Rattle.plain.specs.Machine.{Machine, machine, plain, step}
use Rattle.plain.specs.Trace.{stop_met, duration, adds}

-- what they come to: how many, in how many cycles, their sums, the stop met (0 where none is), and the machine
pub record Wholes : Type 0 where
  pub done : ℕ
  pub used : ℕ
  pub sums : Sums
  pub stop : ℕ
  pub machine : Machine

abbrev pub wholes_of : ℕ → ℕ → Sums → ℕ → Machine → Wholes
wholes_of done used sums stop m = record { done = done; used = used; sums = sums; stop = stop; machine = m }

-- none, and the stop met there
abbrev pub none_done : ℕ → Machine → Wholes
none_done stop m = wholes_of 0 0 no_sums stop m

-- n instructions in u cycles with these sums, and w after them
abbrev pub further : ℕ → ℕ → Sums → Wholes → Wholes
further n u q w = wholes_of (n + w.done) (u + w.used) (plus q w.sums) w.stop w.machine

-- the cycles of the longest instruction: a load of sixteen registers, the counter among them
abbrev pub longest : ℕ
longest = 20

-- n instructions, or fewer where the longest no longer fits into b cycles or a stop is met, which is not counted
unfoldable pub wholes : ℕ → ℕ → Machine → Wholes
wholes zero b m = none_done 0 m
wholes (suc n) b m =
    pick (leb longest b)
    (elim (stop_met m) [ zero ↦ further 1 (duration m) (adds m) (wholes n (b - duration m) (step m)) | suc q ↦ none_done (suc q) (step m) ])
    (none_done 0 m)

-- a machine that holds no stop, in the parts that the loop has, and where the loop came to
abbrev pub going : List ℕ → ℕ → ℕ → Board → List ℕ → Machine
going g flags a board mem = machine (plain g a flags 0 board) mem

-- the tally tells their sums
abbrev pub came_to : Came → Tally → List ℕ → Board → List ℕ → Wholes
came_to r w g board mem =
    let stop = held_number r.stop in
    wholes_of r.done r.used (told_by w r.done r.used) stop (machine (plain g r.a r.flags stop board) mem)
