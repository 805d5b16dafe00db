use Rattle.std.proofs.Common.{◌≡◌, sym, ◌∙◌, arith}
use Rattle.transfer.proofs.NamedRegisters.{lowest, lowest-le, named-lowest, none-named, some-named}
use Rattle.transfer.proofs.named.lowest.Goals as goal

pub returns-then-n-lt16 : goal.returns-then-n-lt16
returns-then-n-lt16 c =
    let list = c.args.list in
    record { first = some-named list (λ e. omega (arith, c.if-n-lt16.true, e)); or_16 = named-lowest list }

pub returns-else-n-lt16 : goal.returns-else-n-lt16
returns-else-n-lt16 c =
    let list = c.args.list in
    let none : lowest list ≡ 16 = omega (arith, lowest-le list, c.if-n-lt16.false) in
    record { first = none-named list (sym (named-lowest list) ∙ none); or_16 = sym none ∙ named-lowest list }
