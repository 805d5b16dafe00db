-- The two counts that whole instructions raise as they go, and the sums that they tell.
use Rattle.std.specs.Prelude.{ℕ, ◌+◌, ◌-◌, ◌^◌, ◌<◌, Option, Some, None}
use Rattle.semantics.specs.declared.Tally.{Tally}
use Rattle.semantics.specs.declared.Sums.{Sums}
use Rattle.semantics.specs.Sums.{nsi}

abbrev pub tally : ℕ → ℕ → Tally
tally n extra = record { n = n; extra = extra }

-- room for what an instruction raises, and its refills after it
abbrev pub Roomy : Tally → Type 0
Roomy w = (w.n < 2 ^ 62) × (w.extra < 2 ^ 62)

-- N, and the accesses beyond the one that each instruction has
abbrev pub raised : Tally → Sums → Tally
raised w q = tally (w.n + q.n) (w.extra + (q.n + q.s - 1))

-- a stored counter: its two refills, N and S
abbrev pub with_refills : Tally → Option ℕ → Tally
with_refills w None = w
with_refills w (Some word) = tally (w.n + 1) (w.extra + 2)

-- what so many instructions in so many cycles come to: each has one access of its own, and what is no access is internal
abbrev pub told_by : Tally → ℕ → ℕ → Sums
told_by w done used = nsi w.n (done + w.extra - w.n) (used - (done + w.extra))
