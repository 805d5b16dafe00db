-- The choice by what the buffer does with each option: a second road to it.
use Rattle.std.specs.Prelude.{ℕ, ◌≤◌, ◌≡◌, true, false, List, Some, None, length}
use Rattle.link.specs.Gaps.{Among}
use Rattle.link.specs.Buffer.{fits, grows}
use Rattle.rate.specs.declared.Request.{Request}
use Rattle.rate.specs.Request.{options_of, line_of, refused}
use Rattle.rate.specs.Figures.{stores_of, figures}

-- on the stores of this image it fits, and does not grow
pub record Carries (r : Request) (image : List ℕ) (option : ℕ) : Type 0 where
  pub fits : fits (line_of r option) (stores_of r image) ≡ true
  pub steady : grows (line_of r option) (stores_of r image) ≡ false

pub record Chooses (r : Request) (image : List ℕ) : Type 0 where
  -- the choice is an option that carries
  pub asked : (o : ℕ) → (figures r image).choice ≡ Some o → Among o (options_of r)
  pub carries : (o : ℕ) → (figures r image).choice ≡ Some o → Carries r image o
  -- and none of those is below it
  pub least : (o p : ℕ) → (figures r image).choice ≡ Some o → Among p (options_of r) → Carries r image p → o ≤ p
  -- where there is no choice, none carries
  pub none : (p : ℕ) → (figures r image).choice ≡ None → Among p (options_of r) → Carries r image p → ⊥

abbrev pub Choice : Type 0
Choice = (r : Request) (image : List ℕ) → refused r (length image) ≡ None → Chooses r image
