-- A run of either engine: steps until the budget is spent or a stop is found.
use Rattle.std.specs.Prelude.{ℕ, zero, suc, ◌+◌}
use Rattle.bits.specs.Choice as choice

-- what a run hands back: its answer (0 where the budget is spent), the steps it counted, and the machine
pub record Ran (M : Type 0) : Type 0 where
  pub answer : ℕ
  pub used : ℕ
  pub machine : M

abbrev pub ran : {M : Type 0} → ℕ → ℕ → M → Ran M
ran answer used m = record { answer = answer; used = used; machine = m }

abbrev pub one_more : {M : Type 0} → Ran M → Ran M
one_more r = ran r.answer (suc r.used) r.machine

-- a run that had n steps before
abbrev pub more_by : {M : Type 0} → ℕ → Ran M → Ran M
more_by n r = ran r.answer (n + r.used) r.machine

-- what a start hands back: its answer (0 where it is accepted), and the machine
pub record Started (M : Type 0) : Type 0 where
  pub answer : ℕ
  pub machine : M

abbrev pub started : {M : Type 0} → ℕ → M → Started M
started answer m = record { answer = answer; machine = m }

-- an engine: the stop that a machine finds, or 0; the machine a step later; the machine with that stop
pub record Engine (M : Type 0) : Type 0 where
  pub finds : M → ℕ
  pub next : M → M
  pub stopped : M → ℕ → M

-- the budget is tested first
unfoldable pub runs : {M : Type 0} → Engine M → ℕ → M → Ran M
runs e zero m = ran 0 0 m
runs e (suc n) m = elim (e.finds m) [ zero ↦ one_more (runs e n (e.next m)) | suc q ↦ ran (suc q) 0 (e.stopped m (suc q)) ]

-- a call that ends with a number before its first step hands everything back unchanged; 0 is no such number
abbrev pub unless : {M : Type 0} → ℕ → M → Ran M → Ran M
unless number m goes = choice.unless number (λ q. ran q 0 m) goes
