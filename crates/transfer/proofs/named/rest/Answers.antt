use Rattle.std.proofs.Common.{arith, pow_mono}
use Rattle.bits.proofs.Fields.{shl_one}
use Rattle.transfer.proofs.NamedRegisters.{lowest, lowest-le, named-rest, list-of}
use Rattle.transfer.proofs.named.rest.Goals as goal

pub overflow_shl-result : goal.overflow_shl-result
overflow_shl-result c = omega (arith, lowest-le c.args.list)

pub overflow_sub-result : goal.overflow_sub-result
overflow_sub-result c =
    let n = lowest c.args.list in
    let le = lowest-le c.args.list in
    rw (shl_one n (omega (arith, le))) (omega (arith, pow_mono le))

pub returns : goal.returns
returns c =
    let le = lowest-le c.args.list in
    let names = named-rest c.args.list in
    rw (shl_one (lowest c.args.list) (omega (arith, le))) record { result_value = names; value = list-of _ _ (omega arith) names }
