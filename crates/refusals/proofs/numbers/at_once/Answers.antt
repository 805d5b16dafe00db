use Rattle.std.proofs.Common.{sym, ◌∙◌}
use Rattle.cycle.specs.Machine.{machine}
use Rattle.refusals.proofs.Refusals.{granted, held-as}
use Rattle.refusals.proofs.numbers.at_once.Goals as goal

pub returns : goal.returns
returns c mem =
    let accepted = granted c.args.lent c.args.budget (machine c.args.registers.now c.args.c mem) (sym (c.in_ok-refusal.ensures mem)) in
    held-as _ _ c.ok.ensures.value c.try_from.ensures.0 c.try_from.ensures.1 accepted.standing ∙ rw (← c.in_ok-refusal.ensures mem)
