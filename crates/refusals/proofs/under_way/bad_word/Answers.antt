use Rattle.refusals.proofs.UnderWay.{no-step}
use Rattle.refusals.proofs.under_way.bad_word.Goals as goal

pub returns-in-Branch : goal.returns-in-Branch
returns-in-Branch c mem = no-step _ _ c.in-Branch.is c.read.ensures
