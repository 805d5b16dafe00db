-- What the functions of `under_way` join: a word's test is that of what it reads as.
-- Assumes nothing.
use Prim.Native.Nat.{ℕ, suc}
use mathlib.Core.Path.{◌≡◌, refl, sym, ap, ◌∙◌}
use mathlib.Core.Logic.{◌⊎◌, inl, inr}
use mathlib.Core.Bool.{Bool, true, false, not, ◌||◌}
use native.Mathlib.Omega.{arith}
use lib.Dec.{ltb, eqb}
use borrow.Author.Tests.{le-ltb}
use Rattle.std.specs.Prelude.{Result, Ok, Err, is_err}
use Rattle.word.specs.declared.Branch.{Branch}
use Rattle.word.specs.declared.Instruction.{Instruction}
use Rattle.word.specs.Reader.{is_other}
use Rattle.stops.specs.declared.rules.Rule.{Rule}
use Rattle.stops.specs.declared.rules.Rule.TheVariants.{ShiftBy15, TestWithoutS, WritesBase15, Offset15, Byte15, BlockBase15, BlockWithS, BlockOfNone, MultiplyRdIsRm, MultiplyOf15}
use Rattle.stops.specs.Numbers.{number_of_rule, rule_number}
use Rattle.stops.specs.Rules.{rule_broken}
use Rattle.semantics.specs.Duration.{own_steps}
use Rattle.cycle.specs.Machine.{Machine}
use Rattle.stops.specs.Stops.{Due, executes}
use Rattle.refusals.specs.Numbers.{left_to_move, state_later, bad_within, bad_step}

-- no rule has the number 0
pub numbered : (rule : Rule) → true ≡ not (eqb (number_of_rule rule) 0)
numbered ShiftBy15 = refl
numbered TestWithoutS = refl
numbered WritesBase15 = refl
numbered Offset15 = refl
numbered Byte15 = refl
numbered BlockBase15 = refl
numbered BlockWithS = refl
numbered BlockOfNone = refl
numbered MultiplyRdIsRm = refl
numbered MultiplyOf15 = refl

-- a rule is broken where its number is not 0
pub broken : (r : Result (Unit {0}) Rule) {b : Bool} {n : ℕ} → b ≡ is_err r → rule_number r ≡ n → b ≡ not (eqb n 0)
broken (Ok u) e q = e ∙ rw (← q)
broken (Err rule) e q = e ∙ numbered rule ∙ rw q

-- an instruction that moves nothing
module _ (i : Instruction) (k : ℕ) (m : Machine) {steps : ℕ} {b h : Bool} where
  pub unmoved : is_other i ≡ false → left_to_move i k ≡ 0 → b ≡ not (eqb (rule_broken i (state_later m)) 0) → steps ≡ own_steps i m.registers → h ≡ ltb (suc k) steps
      → (b || not h) ≡ bad_within i k m
  unfolding bad_within
  unmoved o z r s e = rw (o, z, ← r, ← s, ← e) (none_left b (not h))
    where
      none_left : (x y : Bool) → (x || y) ≡ (x || (y || false))
      none_left true y = refl
      none_left false true = refl
      none_left false false = refl

pub read-within : (k : ℕ) (m : Machine) {i j : Instruction} {r : Bool} → i ≡ j → r ≡ bad_within i k m → r ≡ bad_within j k m
read-within k m e q = q ∙ ap (λ (x : Instruction). bad_within x k m) e

-- a branch has one step
pub branch-within : (i : Branch) (k : ℕ) (m : Machine) → true ≡ bad_within (Instruction.Branch i) k m
unfolding bad_within rule_broken own_steps
branch-within i k m = rw (le-ltb (suc k) 1 (omega arith)) refl

pub other-within : (w k : ℕ) (m : Machine) → true ≡ bad_within (Instruction.Other w) k m
unfolding bad_within
other-within w k m = refl

-- neither has a step 2
pub no-step : (k : ℕ) (m : Machine) {i j : Instruction} → ((b : Branch) × i ≡ Instruction.Branch b) ⊎ ((w : ℕ) × i ≡ Instruction.Other w) → i ≡ j → true ≡ bad_within j k m
no-step k m (inl (b, e)) r = read-within k m (sym e ∙ r) (branch-within b k m)
no-step k m (inr (w, e)) r = read-within k m (sym e ∙ r) (other-within w k m)

-- and a step's that of the instruction that is due
pub step-within : {d : Due} {i : Instruction} (k : ℕ) (m : Machine) {r : Bool} → r ≡ bad_within i k m → d ≡ executes i → r ≡ bad_step d k m
step-within k m q e = q ∙ ap (λ (x : Due). bad_step x k m) (sym e)
