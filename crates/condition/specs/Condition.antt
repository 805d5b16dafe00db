-- The conditions (paper 01, "Words and records"). Flags are one number, 8N+4Z+2C+V.
use Rattle.std.specs.Prelude.{ℕ, ◌%◌, Bool, true, false, not, ◌&&◌, ◌||◌, List, [], ◌∷◌, get_or}
use Rattle.bits.specs.Choice.{same}
use Rattle.bits.specs.Bits.{bit}

-- the sixteen conditions in order, at the four flags
abbrev pub conditions : Bool → Bool → Bool → Bool → List Bool
conditions n z c v =
    z ∷  -- EQ
    not z ∷  -- NE
    c ∷  -- CS
    not c ∷  -- CC
    n ∷  -- MI
    not n ∷  -- PL
    v ∷  -- VS
    not v ∷  -- VC
    (c && not z) ∷  -- HI
    (not c || z) ∷  -- LS
    same n v ∷  -- GE
    not (same n v) ∷  -- LT
    (not z && same n v) ∷  -- GT
    (z || not (same n v)) ∷  -- LE
    true ∷  -- always
    false ∷ []  -- never

-- an instruction of this condition is done at these flags.
-- A condition and the flags are four bits: the rest of a number is not looked at
unfoldable pub passes : ℕ → ℕ → Bool
passes condition flags =
    get_or (conditions (bit flags 3) (bit flags 2) (bit flags 1) (bit flags 0)) (condition % 16) false
