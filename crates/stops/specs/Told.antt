-- What a walk hands back, by the numbers of the stops.
use Rattle.stops.specs.declared.walk.Walked.{Walked}
use Rattle.stops.specs.Numbers.{stop_number}
use Rattle.stops.specs.Walk as walk

abbrev pub walked : Walked → walk.Walked
walked w = record { stop = stop_number w.stop; looked = w.looked }
