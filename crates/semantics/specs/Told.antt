-- What a call hands back of an instruction, in the paper's numbers.
use Rattle.std.specs.Prelude.{ℕ, Result, Ok, Err}
use Rattle.stops.specs.declared.reason.Stop.{Stop}
use Rattle.stops.specs.Numbers.{number_of}
use Rattle.semantics.specs.declared.Performed.{Performed}
use Rattle.semantics.specs.Perform.{Told, performed, stopped_at}

-- of one that is done
abbrev pub done_by : Performed → Told
done_by p = performed 0 p.flags p.next p.cycles

-- of one at a with these flags, which a stop leaves
abbrev pub told : ℕ → ℕ → Result Performed Stop → Told
told f a (Ok p) = done_by p
told f a (Err stop) = stopped_at (number_of stop) f a
