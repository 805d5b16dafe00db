use Rattle.std.proofs.Common.{w32}
use Rattle.std.proofs.lemmas.Int.{of_z-to_z}
use Rattle.datapath.specs.Shifter.{signed}
use Rattle.datapath.proofs.Moved.{signed_lt}
use Rattle.datapath.proofs.Floors.{moved_right}
use Rattle.datapath.proofs.shifter.signed.Goals as goal

pub returns : goal.returns
returns c =
    let v = c.args.v in
    let n = c.args.n in
    let h = c.ranges.v.fits in
    rw (c.cast_unsigned.ensures, c.cast_signed.ensures, of_z-to_z w32 v h, moved_right v n h c.requires)
    (of_z-to_z w32 (signed v n) (signed_lt v n h c.requires))
