-- What the functions of `duration` join: a word's duration is that of what it reads as. Assumes nothing.
use Rattle.std.proofs.Common.{◌≡◌, ℕ, ◌≤◌, Bool, true, List, refl, ap, ◌∙◌, arith}
use Rattle.word.specs.declared.Processing.{Processing}
use Rattle.word.specs.declared.Single.{Single}
use Rattle.word.specs.declared.Block.{Block}
use Rattle.word.specs.declared.Branch.{Branch}
use Rattle.word.specs.declared.Multiply.{Multiply}
use Rattle.word.specs.declared.Instruction.{Instruction}
use Rattle.semantics.specs.Duration.{processing_steps, single_steps, block_steps, branch_steps, own_steps, multiply_steps, stores_counter, with_refills, duration_of}

-- room for the refills
pub short-as : {n steps : ℕ} → n ≡ steps → steps ≤ 18 → n ≤ 18
short-as e h = omega arith

-- of its parts, by class
module _ (g : List ℕ) {r steps : ℕ} {b : Bool} where
  pub processing-lasts : (i : Processing) → r ≡ with_refills steps b → steps ≡ processing_steps i → b ≡ stores_counter (Instruction.Processing i)
      → r ≡ duration_of (Instruction.Processing i) g
  unfolding duration_of own_steps
  processing-lasts i e s t = e ∙ rw (s, t)

  pub single-lasts : (i : Single) → r ≡ with_refills steps b → steps ≡ single_steps i → b ≡ stores_counter (Instruction.Single i) → r ≡ duration_of (Instruction.Single i) g
  unfolding duration_of own_steps
  single-lasts i e s t = e ∙ rw (s, t)

  pub block-lasts : (i : Block) → r ≡ with_refills steps b → steps ≡ block_steps i → b ≡ stores_counter (Instruction.Block i) → r ≡ duration_of (Instruction.Block i) g
  unfolding duration_of own_steps
  block-lasts i e s t = e ∙ rw (s, t)

pub read-lasts : (g : List ℕ) {i j : Instruction} {r : ℕ} → i ≡ j → r ≡ duration_of i g → r ≡ duration_of j g
read-lasts g e q = q ∙ ap (λ (x : Instruction). duration_of x g) e

pub branch-lasts : (i : Branch) (g : List ℕ) {r : ℕ} → r ≡ with_refills branch_steps true → r ≡ duration_of (Instruction.Branch i) g
unfolding duration_of own_steps stores_counter
branch-lasts i g e = e

pub multiply-lasts : (i : Multiply) (g : List ℕ) {steps : ℕ} → steps ≡ multiply_steps i g → steps ≡ duration_of (Instruction.Multiply i) g
unfolding duration_of own_steps stores_counter
multiply-lasts i g e = omega arith

pub other-lasts : (w : ℕ) (g : List ℕ) → 1 ≡ duration_of (Instruction.Other w) g
unfolding duration_of own_steps stores_counter
other-lasts w g = refl
