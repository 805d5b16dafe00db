-- Both parts of a test that has failed, and of one that has passed.
-- Assumes nothing.
use mathlib.Core.Path.{◌≡◌, refl}
use mathlib.Core.Bool.{Bool, true, false, ◌||◌, ◌&&◌}

pub or-false : (a : Bool) {b : Bool} → (a || b) ≡ false → (a ≡ false) × (b ≡ false)
or-false true e = (e, cc)
or-false false e = (refl, e)

pub and-true : (a : Bool) {b : Bool} → (a && b) ≡ true → (a ≡ true) × (b ≡ true)
and-true true e = (refl, e)
and-true false e = (cc, cc)
