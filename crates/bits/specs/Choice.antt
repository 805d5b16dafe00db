-- A choice between two values by a test.
use Rattle.std.specs.Prelude.{ℕ, Bool, true, false, eqb}

-- a where the test holds, else b
abbrev pub pick {ℓ} : {A : Type ℓ} → Bool → A → A → A
pick true a b = a
pick false a b = b

-- both are true, or both are false
abbrev pub same : Bool → Bool → Bool
same true true = true
same true false = false
same false true = false
same false false = true

-- a call that a number ends, which is not 0; else it goes on
abbrev pub unless {ℓ} : {A : Type ℓ} → ℕ → (ℕ → A) → A → A
unless number ended goes = pick (eqb number 0) goes (ended number)
