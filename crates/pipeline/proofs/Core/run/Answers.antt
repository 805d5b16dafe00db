use Rattle.std.proofs.Common.{ap, ◌∙◌}
use Rattle.stops.specs.Numbers.{held_number}
use Rattle.stops.proofs.Numbers as stops
use Rattle.plain.proofs.Told.{some_number, refused_run}
use Rattle.pipeline.proofs.Calls.{ended, begun, room}
use Rattle.pipeline.proofs.Core.run.Goals as goal
use Rattle.pipeline.proofs.Core.run.Goals.{in-None, in-Some}

pub returns-in_err-at_once : goal.returns-in_err-at_once
returns-in_err-at_once c = refused_run _ _ _ _ c.from_residual.ensures.1 ∙ ended _ _ _ (c.in_err-at_once.ensures _) (some_number _)

pub run_from-went-requires : goal.run_from-went-requires
run_from-went-requires c = let r = room _ _ _ (c.in_ok-at_once.ensures c.args.memory.now) (ap held_number c.in-None.is) in (r.room, r.behind, r.timed)

pub returns : goal.returns
returns c = elim c.match-branch-2.branch [
  | in-None w ↦ rw (w.memory-is, w.registers-is, w.went-is) (begun _ _ _ (c.in_ok-at_once.ensures _) (ap held_number w.in-None.is) w.run_from-went.ensures)
  | in-Some w ↦ rw (w.memory-is, w.registers-is, w.went-is) (rw w.in-Some.is at (ended _ _ _ (c.in_ok-at_once.ensures c.args.memory.now) (rw w.in-Some.is (stops.some_number w.in-Some.stop))))
]
