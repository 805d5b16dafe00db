-- Which answers of a run are refusals.
-- Assumes nothing.
use Rattle.std.specs.Prelude.{◌≡◌, ℕ, suc, List, Bool, true, false, Option, Some, None}
use native.Mathlib.Omega.{arith}
use Rattle.std.proofs.Common.{refl}
use Rattle.stops.specs.declared.reason.Stop.{Stop}
use Rattle.stops.specs.declared.reason.Stop.TheVariants.{NoWord, OtherWord, BrokenRule, OutsideMemory, FetchedWord}
use Rattle.stops.specs.Numbers.{held_number}
use Rattle.plain.specs.declared.refused.Refusal.{Refusal}
use Rattle.plain.specs.declared.refused.Refusal.TheVariants.{Length, Entry, Budget, Flags, Record, OtherMemory, TooManyCycles}
use Rattle.plain.specs.Refused.{number_of}
use Rattle.core_arrays.specs.CoreArray as core_array
use Rattle.array_calls.specs.Calls.{is_refusal, other_length, array_refusal, refusal_of}

pub of_refusal : (refusal : Refusal) → is_refusal (number_of refusal) ≡ true
of_refusal Length = refl
of_refusal Entry = refl
of_refusal Budget = refl
of_refusal Flags = refl
of_refusal Record = refl
of_refusal OtherMemory = refl
of_refusal TooManyCycles = refl

pub of_stop : (held : Option Stop) → is_refusal (held_number held) ≡ false
of_stop (Some NoWord) = refl
of_stop (Some OtherWord) = refl
of_stop (Some BrokenRule) = refl
of_stop (Some OutsideMemory) = refl
of_stop (Some FetchedWord) = refl
of_stop None = refl

-- what the array refuses with is a refusal
pub array-number : (words : List ℕ) (lent q : ℕ) → refusal_of words lent ≡ suc q → is_refusal (suc q) ≡ true
array-number words lent q e = go (other_length lent (core_array.length_in words)) (core_array.stands_for_core words) e
  where
    go : (a b : Bool) → array_refusal a b ≡ suc q → is_refusal (suc q) ≡ true
    go true b h = rw (← h)
    go false false h = rw (← h)
    go false true h = absurd (omega (arith, h))
