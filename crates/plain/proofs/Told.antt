-- A refusal that a call hands on: nothing is changed.
-- Assumes nothing.
use Rattle.std.specs.Prelude.{◌≡◌, Result, Ok, Err}
use Rattle.std.specs.Result.{IsErrAnd}
use Rattle.std.proofs.Common.{ap, arith}
use Rattle.plain.specs.declared.Ran.{Ran}
use Rattle.plain.specs.declared.refused.Refusal.{Refusal}
use Rattle.plain.specs.declared.refused.Refusal.TheVariants.{Length, Entry, Budget, Flags, Record, OtherMemory, TooManyCycles}
use Rattle.plain.specs.Refused.{number_of}
use Rattle.plain.specs.Running.{started, ran}
use Rattle.plain.specs.Told.{started_as, ran_as}

-- no refusal has the number 0
pub some_number : (refusal : Refusal) → number_of refusal ≡ 0 → ⊥
some_number Length e = omega (arith, e)
some_number Entry e = omega (arith, e)
some_number Budget e = omega (arith, e)
some_number Flags e = omega (arith, e)
some_number Record e = omega (arith, e)
some_number OtherMemory e = omega (arith, e)
some_number TooManyCycles e = omega (arith, e)

pub refused_start : {P : Type 0} (zeroed : P) (refusal : Refusal) (r : Result P Refusal) → IsErrAnd r (λ e. e ≡ refusal)
    → started_as zeroed r ≡ started (number_of refusal) zeroed
refused_start zeroed refusal (Ok p) h = absurd h
refused_start zeroed refusal (Err e) h = ap (λ (x : Refusal). started (number_of x) zeroed) h

pub refused_run : {P M : Type 0} (seen : P → M) (p : P) (refusal : Refusal) (r : Result (Ran P) Refusal) → IsErrAnd r (λ e. e ≡ refusal)
    → ran_as seen p r ≡ ran (number_of refusal) 0 (seen p)
refused_run seen p refusal (Ok q) h = absurd h
refused_run seen p refusal (Err e) h = ap (λ (x : Refusal). ran (number_of x) 0 (seen p)) h
