-- A stop that a call hands on: nothing but the stop is changed.
-- Assumes nothing.
use Rattle.std.specs.Prelude.{ℕ, ◌≡◌, Result, Ok, Err}
use Rattle.std.specs.Result.{IsErrAnd}
use Rattle.std.proofs.Common.{ap}
use Rattle.stops.specs.declared.reason.Stop.{Stop}
use Rattle.stops.specs.Numbers.{number_of}
use Rattle.semantics.specs.declared.Performed.{Performed}
use Rattle.semantics.specs.Perform.{stopped_at}
use Rattle.semantics.specs.Told.{told}

pub handed_on : (f a : ℕ) (stop : Stop) (r : Result Performed Stop) → IsErrAnd r (λ e. e ≡ stop) → told f a r ≡ stopped_at (number_of stop) f a
handed_on f a stop (Ok p) h = absurd h
handed_on f a stop (Err e) h = ap (λ (x : Stop). stopped_at (number_of x) f a) h
