-- The two words of a fetched word and the fetched word are inverse to each other. Assumes nothing.
use Rattle.std.specs.Prelude.{Option, ℕ, Some, None}
use Rattle.std.proofs.Common.{◌≡◌, ℕ, Bool, true, false, ◌&&◌, ◌||◌, eqb, [], ◌∷◌, sym, refl, eqb-true}
use mathlib.Core.Bool.{false≢true}
use Rattle.core_arrays.specs.Fetched.{word_in, validity, fetched_words, fetched_of, stands_for_fetched}

pub fetched-back : (f : Option ℕ) → fetched_of (word_in f) (validity f) ≡ f
fetched-back (Some w) = refl
fetched-back None = refl

pub stands-fetched : (f : Option ℕ) → stands_for_fetched (word_in f) (validity f) ≡ true
stands-fetched (Some w) = refl
stands-fetched None = refl

pub both : (a b : Bool) → (a && b) ≡ true → (a ≡ true) × (b ≡ true)
both true b h = (refl, h)
both false b h = absurd (false≢true h)

either : (a b : Bool) → (a || b) ≡ true → a ≡ false → b ≡ true
either true b h e = absurd (false≢true (sym e))
either false b h e = h

pub fetched-words-back : (w v : ℕ) → stands_for_fetched w v ≡ true → fetched_words (fetched_of w v) ≡ w ∷ v ∷ []
fetched-words-back w v h = go (eqb v 1) refl
  where
    go : (t : Bool) → eqb v 1 ≡ t → fetched_words (fetched_of w v) ≡ w ∷ v ∷ []
    go true e = let one : v ≡ 1 = eqb-true v 1 e in rw one
    go false e =
        let parts : (eqb v 0 ≡ true) × (eqb w 0 ≡ true) = both _ _ (either _ _ h e) in
        rw (eqb-true v 0 parts.0, eqb-true w 0 parts.1)
