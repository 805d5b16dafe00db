use Rattle.std.proofs.Common.{◌≡◌, ◌<◌, ◌+◌, ◌-◌, drop, sym, ◌∙◌, arith}
use lib.Seq.{drop-nil}
use Rattle.transfer.specs.Block.{named}
use Rattle.transfer.proofs.NamedRegisters.{named-mod, named_none, list-of, list-lt, drop-tail}
use Rattle.transfer.proofs.named.dropped.Goals as goal

pub loop-taken-init : goal.loop-taken-init
loop-taken-init c =
    let all : c.args.k - 0 ≡ c.args.k = omega arith in
    (rw (all, named-mod), omega arith)

pub returns-then-left-eq0 : goal.returns-then-left-eq0
returns-then-left-eq0 c =
    let at = c.loop-taken in
    let names : named 0 ≡ drop c.args.k (named c.args.list) =
    named_none ∙ sym (drop-nil (c.args.k - at._taken)) ∙ rw (c.if-left-eq0.true, named_none) at at.invariant.0 in
    record { result_value = names; value = list-of 0 _ (omega arith) names }

pub loop-taken-preserved : goal.loop-taken-preserved
loop-taken-preserved c =
    let at = c.loop-taken in
    let more : 0 < c.args.k - at._taken = let h = c.loop-taken-test.true in omega (arith, h) in
    let less : c.args.k - (at._taken + 1) ≡ c.args.k - at._taken - 1 = omega arith in (
      rw (c.rest-left.ensures.result_value, less, drop-tail) at.invariant.0,
      list-lt _ _ c.rest-left.ensures.result_value c.rest-left.ensures.value,
    )

pub returns : goal.returns
returns c =
    let at = c.loop-taken in
    let h = c.loop-taken-test.false in
    let done : c.args.k - at._taken ≡ 0 = omega (arith, h) in
    let names = rw done at at.invariant.0 in
    record { result_value = names; value = list-of _ _ at.invariant.1 names }
