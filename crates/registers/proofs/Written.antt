-- A register written has the new value, and the others keep theirs.
-- Assumes nothing.
use mathlib.Core.Path.{◌≡◌, refl}
use mathlib.Core.Bool.{Bool, true, false}
use mathlib.Core.List.{List}
use mathlib.Core.Logic.{◌≢◌}
use Prim.Native.Nat.{ℕ, ◌<◌}
use native.Mathlib.Omega.{arith}
use lib.Dec.{ltb}
use lib.ListN.{length, get_or, set}
use lib.Seq.{get_or-set_same, get_or-set_other}
use borrow.Author.Tests.{lt-ltb}
use Rattle.bits.specs.Choice.{pick}
use Rattle.registers.specs.Registers.{register, put}

pub put_other : (g : List ℕ) (x v r : ℕ) → r ≢ x → get_or (put g x v) r 0 ≡ get_or g r 0
unfolding put
put_other g x v r n = go (ltb x 15)
  where
    go : (t : Bool) → get_or (pick t (set g x v) g) r 0 ≡ get_or g r 0
    go true = get_or-set_other g x r v 0 n
    go false = refl

pub put_same : (g : List ℕ) (x v : ℕ) → x < 15 → length g ≡ 15 → get_or (put g x v) x 0 ≡ v
unfolding put
put_same g x v h l = rw (lt-ltb x 15 h) (get_or-set_same g x v 0 (omega arith))

-- a register below 15 reads as it is held
pub register-below : (g : List ℕ) (x r15 : ℕ) → x < 15 → register g x r15 ≡ get_or g x 0
unfolding register
register-below g x r15 h = rw (lt-ltb x 15 h)
