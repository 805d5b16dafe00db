-- The numbers of the stops.
-- Assumes nothing.
use Rattle.std.specs.Prelude.{◌≡◌}
use Rattle.std.proofs.Common.{arith}
use Rattle.stops.specs.declared.reason.Stop.{Stop}
use Rattle.stops.specs.declared.reason.Stop.TheVariants.{NoWord, OtherWord, BrokenRule, OutsideMemory, FetchedWord}
use Rattle.stops.specs.Numbers.{number_of}

-- no stop has the number 0
pub some_number : (stop : Stop) → number_of stop ≡ 0 → ⊥
some_number NoWord e = omega (arith, e)
some_number OtherWord e = omega (arith, e)
some_number BrokenRule e = omega (arith, e)
some_number OutsideMemory e = omega (arith, e)
some_number FetchedWord e = omega (arith, e)
