-- What the functions of `refill` join: whether a word can store the counter is told by what it reads as.
-- Assumes nothing.
use Prim.Native.Nat.{ℕ}
use mathlib.Core.Path.{◌≡◌, refl, sym, ap, ◌∙◌}
use mathlib.Core.Logic.{◌⊎◌, inl, inr}
use mathlib.Core.Bool.{Bool, true, false, not, ◌&&◌}
use lib.Dec.{eqb}
use Rattle.std.specs.Prelude.{Result, Ok, Err, is_ok}
use Rattle.word.specs.declared.Branch.{Branch}
use Rattle.word.specs.declared.Multiply.{Multiply}
use Rattle.word.specs.declared.Instruction.{Instruction}
use Rattle.registers.specs.State.{State}
use Rattle.stops.specs.declared.rules.Rule.{Rule}
use Rattle.stops.specs.Numbers.{number_of_rule, rule_number}
use Rattle.stops.specs.Rules.{rule_broken}
use Rattle.semantics.specs.Duration.{stores_counter}
use Rattle.refusals.specs.Numbers.{can_store}
use Rattle.refusals.proofs.UnderWay.{numbered}

-- a rule is kept where its number is 0
pub kept : (r : Result (Unit {0}) Rule) {b : Bool} {n : ℕ} → b ≡ is_ok r → rule_number r ≡ n → b ≡ eqb n 0
kept (Ok u) e q = e ∙ rw (← q)
kept (Err rule) e q = e ∙ flip (eqb (number_of_rule rule) 0) (numbered rule) ∙ rw q
  where
    flip : (b : Bool) → true ≡ not b → false ≡ b
    flip true h = sym h
    flip false h = refl

none : (b : Bool) → false ≡ (b && false)
none true = refl
none false = refl

module _ (s : State) where
  pub read-stores : {i j : Instruction} {r : Bool} → i ≡ j → r ≡ can_store i s → r ≡ can_store j s
  read-stores e q = q ∙ ap (λ (x : Instruction). can_store x s) e

  pub both-store : (i : Instruction) {a b : Bool} → a ≡ eqb (rule_broken i s) 0 → b ≡ stores_counter i → (a && b) ≡ can_store i s
  both-store i e f = rw (e, f)

  -- neither a multiply nor an Other does
  pub stores-none : {i j : Instruction} → ((m : Multiply) × i ≡ Instruction.Multiply m) ⊎ ((w : ℕ) × i ≡ Instruction.Other w) → i ≡ j → false ≡ can_store j s
  unfolding stores_counter
  stores-none (inl (m, e)) r = read-stores (sym e ∙ r) (none (eqb (rule_broken (Instruction.Multiply m) s) 0))
  stores-none (inr (w, e)) r = read-stores (sym e ∙ r) (none (eqb (rule_broken (Instruction.Other w) s) 0))

  pub branch-stores : (i : Branch) → true ≡ can_store (Instruction.Branch i) s
  unfolding rule_broken stores_counter
  branch-stores i = refl
