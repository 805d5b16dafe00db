-- Tests of a number that a call gave, said of what the number is; and tests of an order, negated.
-- Assumes nothing.
use mathlib.Core.Path.{◌≡◌, refl, sym, ◌∙◌}
use mathlib.Core.Bool.{Bool, true, false, not}
use Prim.Native.Nat.{ℕ}
use lib.Dec.{ltb, leb, eqb}
use borrow.Author.Tests.{eq-eqb, ne_eqb, lt-ltb, le-ltb, lt-leb, le-leb, ltb-true, ltb-false, leb-true, leb-false}

pub zero-by : {x y : ℕ} → x ≡ y → x ≡ 0 → eqb y 0 ≡ true
zero-by e z = eq-eqb _ _ (sym e ∙ z)

pub nonzero-by : {x y : ℕ} → x ≡ y → (x ≡ 0 → ⊥) → eqb y 0 ≡ false
nonzero-by e n = ne_eqb _ _ (λ z. n (e ∙ z))

module _ (a b : ℕ) where
  pub not-leb : not (leb b a) ≡ ltb a b
  not-leb = go (leb b a) refl
    where
      go : (t : Bool) → leb b a ≡ t → not t ≡ ltb a b
      go true e = sym (le-ltb a b (leb-true b a e))
      go false e = sym (lt-ltb a b (leb-false b a e))

  pub not-ltb : not (ltb b a) ≡ leb a b
  not-ltb = go (ltb b a) refl
    where
      go : (t : Bool) → ltb b a ≡ t → not t ≡ leb a b
      go true e = sym (lt-leb a b (ltb-true b a e))
      go false e = sym (le-leb a b (ltb-false b a e))
