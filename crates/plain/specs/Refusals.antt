-- What a run of the plain machine refuses with, as a table (paper 01, "Plain machine"): each clause of 11, and 12, 11, 3 in that order.
use Rattle.std.specs.Prelude.{ℕ, ◌≡◌, List, [], ◌∷◌, map, replicate}
use Rattle.plain.specs.declared.Plain.{Plain}
use Rattle.plain.specs.Machine.{plain}
use Rattle.plain.specs.Numbers.{refusal}

-- A, flags, stop and length
abbrev pub standing : ℕ → ℕ → ℕ → ℕ → Plain
standing a f stop n = plain (replicate 15 0) a f stop (record { size = n })

-- each of the first values in its place makes the record bad, and none of the second
abbrev pub Tells : (ℕ → ℕ → ℕ) → List ℕ → List ℕ → Type 0
Tells refused bads goods = (map (λ x. refused x 0) bads ≡ map (λ x. 11) bads) × (map (λ x. refused x 0) goods ≡ map (λ x. 0) goods)

pub record Refusals : Type 0 where
  -- 11: length breaks 1
  pub length : Tells (λ n. refusal (standing 8 0 0 n) n) (0 ∷ 12 ∷ 18 ∷ 65540 ∷ []) (16 ∷ 20 ∷ 65536 ∷ [])
  -- A not a multiple of 4 or not below 2^26
  pub counter : Tells (λ a. refusal (standing a 0 0 16) 16) (1 ∷ 2 ∷ 0x4000000 ∷ []) (0 ∷ 16 ∷ 0x3FFFFFC ∷ [])
  -- flags above 15
  pub flags : Tells (λ f. refusal (standing 8 f 0 16) 16) (16 ∷ []) (0 ∷ 15 ∷ [])
  -- stop not 0 or 21..25
  pub stop : Tells (λ q. refusal (standing 8 0 q 16) 16) (1 ∷ 20 ∷ 26 ∷ []) (0 ∷ 21 ∷ 22 ∷ 23 ∷ 24 ∷ 25 ∷ [])
  -- 3 for a count above 1,000,000
  pub count : map (refusal (standing 8 0 0 16) 16) (0 ∷ 1 ∷ 1000000 ∷ 1000001 ∷ []) ≡ 0 ∷ 0 ∷ 0 ∷ 3 ∷ []
  -- 12 before 11 and 3, 11 before 3; a stop held is no refusal, and hides none
  pub order :
      refusal (standing 8 16 0 16) 20 1000001 ∷ refusal (standing 8 0 0 16) 20 1000001 ∷ refusal (standing 8 16 0 16) 16 1000001
      ∷ refusal (standing 8 0 21 16) 16 1000001
      ∷ []
      ≡ 12 ∷ 12 ∷ 11 ∷ 3 ∷ []
