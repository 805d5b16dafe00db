-- The marked values hold, by computation on the definitions.
-- Assumes nothing.
use mathlib.Core.Path.{refl}
use Rattle.bits.specs.Bits.{field, bit}
use Rattle.word.specs.Reader.{read_of}
use Rattle.condition.specs.Condition.{passes}
use Rattle.datapath.specs.Counter.{ahead}
use Rattle.registers.specs.Registers.{register}
use Rattle.transfer.specs.Single as single
use Rattle.memory.specs.Memory.{place, limit}
use Rattle.stops.specs.Rules.{rule_broken}
use Rattle.stops.specs.Moves.{moves_of}
use Rattle.stops.specs.Walk.{walk}
use Rattle.stops.specs.Stops.{due, stop_of, stop_for}
use Rattle.stops.specs.Marked.{Marked}

pub marked : Marked
unfolding field bit read_of passes ahead register single.offset_of single.changed_base single.address_of rule_broken place limit moves_of walk due stop_of stop_for
marked = record { store_24 = λ f. refl; store_28 = λ f. refl; store_20 = λ f. refl; store_2C = λ f. refl }
