-- What the code of a cycle is given: counts with room for one more, and what it knows of an instruction of one step.
use Rattle.std.specs.Prelude.{◌≡◌, ℕ, ◌^◌, ◌<◌, Option}
use Rattle.semantics.specs.declared.Sums.{Sums}
use Rattle.semantics.specs.Sums.{processed_sums}
use Rattle.steps.specs.declared.Phase.{Phase}
use Rattle.steps.specs.declared.Phase.TheVariants.{Step1}
use Rattle.steps.specs.declared.Ended.{Ended}
use Rattle.steps.specs.declared.Ended.TheVariants.{Executed}
use Rattle.cycle.specs.declared.Counts.{Counts}
use Rattle.cycle.specs.Cycle.{ended_sums}

abbrev pub Summable : Sums → Type 0
Summable q = (q.n < 2 ^ 63) × (q.s < 2 ^ 63) × (q.i < 2 ^ 63)

abbrev pub Countable : Counts → Type 0
Countable n = (n.cycles < 2 ^ 63) × (n.retired < 2 ^ 63) × Summable n.sums

-- what is executed in step 1 alone, and so stores no counter, adds S
abbrev pub InOneStep : Phase → Ended → Option ℕ → Type 0
InOneStep ph e x = (m : ℕ) → ph ≡ Step1 → e ≡ Executed m → ended_sums e x ≡ processed_sums
