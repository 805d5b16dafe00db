-- Whole instructions that tell their stores, and the quick road of a watched run by them.
use Rattle.std.specs.Prelude.{ℕ, ◌+◌, ◌≤◌, ◌≡◌}
use Rattle.semantics.specs.declared.Tally.{Tally}
use Rattle.semantics.specs.Tally.{told_by}
use Rattle.plain.specs.Machine as plain
use Rattle.plain.specs.Trace.{trace, durations, added, Does}

-- k whole instructions of p, none of which met a stop: this many cycles and these sums, which the tally tells, and where they come to
pub record Goes (p : plain.Machine) (k used : ℕ) (w : Tally) (m : plain.Machine) : Type 0 where
  pub does : Does p k
  pub used_is : used ≡ durations p k
  pub sums_are : told_by w k used ≡ added p k
  pub small : (w.n ≤ k + w.extra) × (k + w.extra ≤ used)
  pub there : m ≡ trace p k
