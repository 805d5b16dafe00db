-- The table of refusals holds, by computation on the definitions.
-- Assumes nothing.
use mathlib.Core.Path.{refl}
use Rattle.plain.specs.Numbers.{bad, refusal}
use Rattle.plain.specs.Refusals.{Refusals}

pub refusals : Refusals
unfolding bad refusal
refusals = record { length = (refl, refl); counter = (refl, refl); flags = (refl, refl); stop = (refl, refl); count = refl; order = refl }
