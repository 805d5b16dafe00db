-- After some pieces it stands where their cycles lead, and their stores are folded. Assumes nothing.
use Rattle.std.proofs.Common.{◌-◌, ◌≡◌, length}
use Rattle.cycle.specs.Machine.{machine}
use Rattle.rate.specs.Heard.{Heard}
use Rattle.rate.specs.Folds.{into_window}
use Rattle.rate.proofs.Parts.{Stands}
use Rattle.rate.proofs.run.watched.Given as goal

abbrev pub invariant-loop-used : goal.invariant-loop-used
invariant-loop-used g l = record {
  stands : Stands l.fn.r (machine l.initial.registers l.fn.c l.initial.image) l.used (machine l.registers l.at l.image) l.summary l.buffers;
  heard : Heard g.L.Listener.hears l.initial.listener l.used (into_window l.fn.r (machine l.initial.registers l.fn.c l.initial.image) l.used) l.listener;
  size : length l.found ≡ 4096;
}

abbrev pub decreases-loop-used : goal.decreases-loop-used
decreases-loop-used g l = l.r.cycles - l.used
