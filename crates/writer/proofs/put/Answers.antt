use mathlib.Core.Logic.{inl, inr}
use native.Mathlib.Omega.{arith}
use borrow.Author.Tests.{lt-ltb}
use lib.Pow.{shl_exact}
use Rattle.writer.specs.Fields.{put}
use Rattle.writer.proofs.Fields.{shr-none, shr-some, room}
use Rattle.writer.proofs.put.Goals as goal

pub overflow_add-result : goal.overflow_add-result
overflow_add-result c =
    let hw = shr-none _ _ c.if-has_room.true in
    let hv = shr-none _ _ c.if-fits.true in
    let width = c.args.width in
    record { fits = rw (shl_exact _ width 32 hw (omega arith)) (room _ width _ (omega arith) hw hv) }

pub returns-then-has_room : goal.returns-then-has_room
unfolding put
returns-then-has_room c =
    let hw = shr-none _ _ c.if-has_room.true in
    let hv = shr-none _ _ c.if-fits.true in
    simp (shl_exact _ c.args.width 32 hw (omega arith), lt-ltb _ _ hv, lt-ltb _ _ hw)

pub returns-else-fits : goal.returns-else-fits
unfolding put
returns-else-fits c =
    elim c.else-fits.either [
      | inl w ↦ simp (lt-ltb _ _ (shr-none _ _ w.0), shr-some _ _ w.1)
      | inr w ↦ simp (shr-some _ _ w)
    ]
