-- What is tested of the table of conditions: each row at each value of the flags.
use Rattle.std.specs.Prelude.{ℕ, zero, suc, Bool, true, ◌&&◌, List, [], ◌∷◌}
use Rattle.bits.specs.Choice.{same}
use Rattle.bits.specs.Bits.{bit}
use Rattle.condition.specs.Condition.{passes}

-- the test f passes at each entry of the list and its place, counted from i
abbrev pub every : (ℕ → ℕ → Bool) → ℕ → List ℕ → Bool
every f i [] = true
every f i (x ∷ xs) = f i x && every f (suc i) xs

-- the test f passes at each number below n
abbrev pub all : (ℕ → Bool) → ℕ → Bool
all f zero = true
all f (suc n) = f n && all f n

-- the row of a condition is right at each value of the flags
unfoldable pub right : ℕ → ℕ → Bool
right condition row = all (λ flags. same (bit row flags) (passes condition flags)) 16
