-- A digit's byte is in the range that its value says; the tables compute. Assumes nothing.
use mathlib.Core.Path.{◌≡◌, refl}
use mathlib.Core.Bool.{Bool, true, false}
use Prim.Native.Nat.{ℕ, ◌+◌, ◌<◌}
use native.Mathlib.Omega.{arith}
use borrow.Author.Tests.{lt-ltb, le-ltb, ltb-true, ltb-false}
use lib.Dec.{ltb}
use Rattle.bits.specs.Choice.{pick}
use Rattle.text.specs.Digit.{digit, counted, value_of, Digits}

inverse : (d : ℕ) → d < 16 → value_of (digit d) ≡ d
unfolding counted
inverse d h = go (ltb d 10) refl
  where
    go : (t : Bool) → ltb d 10 ≡ t → value_of (pick t (48 + d) (55 + d)) ≡ d
    go true e = simp (le-ltb (48 + d) 48 (omega arith), le-ltb 57 (48 + d) (omega (arith, ltb-true d 10 e))) (omega arith)
    go false e =
        let above = ltb-false d 10 e in
        simp (le-ltb (55 + d) 48 (omega arith), lt-ltb 57 (55 + d) (omega arith), le-ltb (55 + d) 65 (omega arith), le-ltb 70 (55 + d) (omega arith))
        (omega arith)

pub digits : Digits
unfolding counted
digits = record { inverse = inverse; lower = refl; none = refl }
