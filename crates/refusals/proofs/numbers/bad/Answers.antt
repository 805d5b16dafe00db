use Rattle.refusals.specs.Numbers.{bad}
use Rattle.refusals.proofs.numbers.bad.Goals as goal

pub returns : goal.returns
unfolding bad
returns c mem = rw (c.bad_progress.ensures mem, c.flags_are_bad.ensures, c.is_counter.ensures, c.length_is_bad.ensures)
