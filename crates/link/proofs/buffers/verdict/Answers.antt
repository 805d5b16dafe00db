-- Of what the walk kept. Assumes nothing.
use Rattle.link.proofs.Walk.{verdict-by}
use Rattle.link.proofs.buffers.verdict.Goals as goal

pub returns : goal.returns
returns c = verdict-by c.args.o c.args.b c.div_ceil.result c.requires.clock_from c.div_ceil.ensures
