-- After i stores it is the buffer that they leave, with room for those left. Assumes nothing.
use Rattle.std.proofs.Common.{◌≡◌, ◌+◌, take}
use Rattle.link.specs.Fold.{all_taken, Filled}
use Rattle.link.proofs.buffers.all_taken.Given as goal

abbrev pub invariant-loop-e : goal.invariant-loop-e
invariant-loop-e l =
    record {
      value : l.after ≡ all_taken l.o l.initial.after (take l.e-index l.es);
      filled : Filled l.o l.after;
      stores : l.after.stores ≡ l.initial.after.stores + l.e-index;
    }
