-- The choice is the least option that carries. Assumes nothing.
use Rattle.std.proofs.Common.{◌≡◌, ℕ, ◌<◌, ◌≤◌, Bool, true, false, Option, Some, None, List, [], ◌∷◌, ◌++◌, length, map, ltb, refl, sym, ap, subst, ◌∙◌, arith}
use Rattle.std.proofs.lemmas.Bool.{ltb-true}
use borrow.Author.Tests.{not-true}
use Rattle.bits.specs.Choice.{pick}
use Rattle.semantics.proofs.Both.{and-true}
use Rattle.link.specs.declared.Verdict.{Verdict}
use Rattle.link.specs.Gaps.{Among}
use Rattle.link.specs.Gaps.Among.{here, further}
use Rattle.link.specs.Buffer.{verdict_of, carries, fits}
use Rattle.link.proofs.Verdicts.{verdicts}
use Rattle.rate.specs.declared.Request.{Request}
use Rattle.rate.specs.Request.{options_of, line_of, next, rises, within, most_options}
use Rattle.rate.specs.Figures.{stores_of, chosen}
use Rattle.rate.specs.Choice.{Carries, Choice}
use Rattle.rate.proofs.Allowed.{allowed}

-- options that rise are above what they rise from
above : (x : ℕ) (os : List ℕ) (p : ℕ) → rises x os ≡ true → Among p os → x < p
unfolding rises
above x [] p e m = elim m [ ]
above x (o ∷ os) p e here = ltb-true x o (and-true (ltb x o) (and-true (next x o) e).0).0
above x (o ∷ os) p e (further m) =
    let a = ltb-true x o (and-true (ltb x o) (and-true (next x o) e).0).0 in
    let b = above o os p (and-true (next x o) e).1 m in
    omega (arith, a, b)

same-some : {a b : ℕ} → Some a ≡ Some b → a ≡ b
same-some e = cc

module _ (f : ℕ → Verdict) (rest : List Verdict) where
  abbrev chosen_of : List ℕ → Option ℕ
  chosen_of os = chosen os (map f os ++ rest)

  -- of the first option and the others
  either : (o : ℕ) (os : List ℕ) → chosen_of (o ∷ os) ≡ pick (carries (f o)) (Some o) (chosen_of os)
  unfolding chosen
  either o os = refl

  none-of : chosen_of [] ≡ None
  unfolding chosen
  none-of = refl

  is-asked : (os : List ℕ) (o : ℕ) → chosen_of os ≡ Some o → Among o os
  is-asked [] o e = absurd (cc none-of)
  is-asked (x ∷ os) o e = go (carries (f x)) (sym (either x os) ∙ e) (is-asked os o)
    where
      go : (b : Bool) → pick b (Some x) (chosen_of os) ≡ Some o → (chosen_of os ≡ Some o → Among o os) → Among o (x ∷ os)
      go true s i = subst (λ y. Among y (x ∷ os)) (same-some s) here
      go false s i = further (i s)

  is-carried : (os : List ℕ) (o : ℕ) → chosen_of os ≡ Some o → carries (f o) ≡ true
  is-carried [] o e = absurd (cc none-of)
  is-carried (x ∷ os) o e = go (carries (f x)) refl (sym (either x os) ∙ e) (is-carried os o)
    where
      go : (b : Bool) → carries (f x) ≡ b → pick b (Some x) (chosen_of os) ≡ Some o → (chosen_of os ≡ Some o → carries (f o) ≡ true) → carries (f o) ≡ true
      go true t s i = subst (λ y. carries (f y) ≡ true) (same-some s) t
      go false t s i = i s

  -- where an option carries, one is chosen that is not above it
  is-least : (x : ℕ) (os : List ℕ) (o p : ℕ) → rises x os ≡ true → chosen_of os ≡ Some o → Among p os → carries (f p) ≡ true → o ≤ p
  unfolding rises
  is-least x [] o p r e m t = elim m [ ]
  is-least x (y ∷ os) o p r e here t =
      let s : Some y ≡ Some o = sym (ap (λ (b : Bool). pick b (Some y) (chosen_of os)) t) ∙ sym (either y os) ∙ e in
      omega (arith, same-some s)
  is-least x (y ∷ os) o p r e (further m) t =
      let a = above y os p (and-true (next x y) r).1 m in
      go (carries (f y)) (sym (either y os) ∙ e) a (λ s. is-least y os o p (and-true (next x y) r).1 s m t)
    where
      go : (b : Bool) → pick b (Some y) (chosen_of os) ≡ Some o → y < p → (chosen_of os ≡ Some o → o ≤ p) → o ≤ p
      go true s a i = omega (arith, same-some s, a)
      go false s a i = i s

  is-none : (os : List ℕ) (p : ℕ) → chosen_of os ≡ None → Among p os → carries (f p) ≡ true → ⊥
  is-none [] p e m t = elim m [ ]
  is-none (y ∷ os) p e here t =
      let s : Some y ≡ None = sym (ap (λ (b : Bool). pick b (Some y) (chosen_of os)) t) ∙ sym (either y os) ∙ e in
      absurd (cc s)
  is-none (y ∷ os) p e (further m) t = go (carries (f y)) (sym (either y os) ∙ e) (λ s. is-none os p s m t)
    where
      go : (b : Bool) → pick b (Some y) (chosen_of os) ≡ None → (chosen_of os ≡ None → ⊥) → ⊥
      go true s i = absurd cc
      go false s i = i s

-- to carry is to fit and not to grow
carried : (r : Request) (image : List ℕ) (o : ℕ) → carries (verdict_of (line_of r o) (stores_of r image)) ≡ true → Carries r image o
carried r image o e =
    let both = and-true (fits (line_of r o) (stores_of r image)) (sym (verdicts (line_of r o) (stores_of r image)).carrying ∙ e) in
    record { fits = both.0; steady = not-true _ both.1 }

carrying : (r : Request) (image : List ℕ) (o : ℕ) → Carries r image o → carries (verdict_of (line_of r o) (stores_of r image)) ≡ true
carrying r image o c = (verdicts (line_of r o) (stores_of r image)).carrying ∙ rw (c.fits, c.steady) refl

pub choice : Choice
choice r image e =
    let rising = (and-true (within most_options r.count) (allowed r (length image) e).options).1 in
    let f = λ (option : ℕ). verdict_of (line_of r option) (stores_of r image) in
    record {
      asked = is-asked f _ (options_of r);
      carries = λ o h. carried r image o (is-carried f _ (options_of r) o h);
      least = λ o p h m c. is-least f _ 0 (options_of r) o p rising h m (carrying r image p c);
      none = λ p h m c. is-none f _ (options_of r) p h m (carrying r image p c);
    }
