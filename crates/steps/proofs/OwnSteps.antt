-- A block store's step with one register left.
-- Assumes nothing.
use Prim.Native.Nat.{ℕ}
use mathlib.Core.Path.{◌≡◌, refl}
use mathlib.Core.List.{List, [], ◌∷◌}
use native.Mathlib.Omega.{arith}
use lib.ListN.{length}
use Rattle.memory.specs.Memory.{Memory, write_word}
use Rattle.steps.specs.declared.Latches.{Latches}
use Rattle.steps.specs.Steps.{done, store_step}

module _ (k : ℕ) (g : List ℕ) (f pc : ℕ) (l : Latches) (mem : Memory) where
  pub store_one : (xs : List ℕ) → length xs ≡ 1 → done g f (write_word mem l.address l.datum) ≡ store_step k xs g f pc l mem
  unfolding store_step
  store_one [] h = absurd (omega arith)
  store_one (x ∷ []) h = refl
  store_one (x ∷ (y ∷ ys)) h = absurd (omega arith)
