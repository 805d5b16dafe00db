use Rattle.transfer.proofs.NamedRegisters.{named-below}
use Rattle.transfer.proofs.named.count.Goals as goal

pub returns : goal.returns
returns c = named-below c.args.list
