use Prim.Native.Nat.{suc, ◌+◌, ◌-◌}
use mathlib.Core.Path.{◌≡◌}
use native.Mathlib.Omega.{arith}
use Rattle.std.proofs.Common.{rules}
use Rattle.watch.proofs.Telling.{left-none, left-one}
use Rattle.watch.proofs.tell.tell_burst.Goals as goal

pub loop-left-preserved : goal.loop-left-preserved
loop-left-preserved c =
    let h = c.loop-left.invariant in
    let l : c.args.n - c.loop-left._left ≡ suc (c.args.n - (c.loop-left._left + 1)) = omega (arith, c.loop-left-test.true) in
    (rw c.next.ensures (left-one _ _ _ _ _ _ _ _ _ _ _ (rw l at h.0) (rw c.place.ensures at c.tell-count.ensures.tells)), omega (arith, h.1, c.tell-count.ensures.upper_bound), search rules, omega (arith, h.3), omega (arith, h.4), omega (arith, h.5, c.tell-count.ensures.lower_bound))

pub returns-clause-tells : goal.returns-clause-tells
returns-clause-tells c =
    let z : c.args.n - c.loop-left._left ≡ 0 = omega (arith, c.loop-left-test.false) in
    left-none _ _ _ _ _ _ c.loop-left.e _ (rw z at c.loop-left.invariant.0)
