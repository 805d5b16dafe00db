-- The last level of some stores, and the greatest of some levels. Assumes nothing.
use Rattle.std.proofs.Common.{◌≡◌, ℕ, ◌<◌, ◌≤◌, max, List, [], ◌∷◌, ◌++◌, sym, ap, ◌∙◌, refl, ⊎_elim, arith}
use Rattle.std.proofs.lemmas.Bool.{cases_lt}
use Rattle.std.proofs.lemmas.List.{same_from_push}
use Rattle.link.specs.declared.Store.{Store}
use Rattle.link.specs.declared.Line.{Line}
use Rattle.link.specs.Buffer.{level_after, levels_from, greatest_of}
use Rattle.link.specs.Gaps.{Among}
use Rattle.link.specs.Gaps.Among.{here, further}
use Rattle.link.specs.Spans.{LastLevel}
use Rattle.link.specs.Spans.LastLevel.{last}
use Rattle.link.specs.Verdicts.{Below}
use Rattle.link.proofs.Gaps.{alike}

-- the level and the tick that some stores leave
abbrev pub tick_after : ℕ → List Store → ℕ
tick_after t [] = t
tick_after t (e ∷ es) = tick_after e.tick es

abbrev pub final : Line → ℕ → ℕ → List Store → ℕ
final o v t [] = v
final o v t (e ∷ es) = final o (level_after o v t e) e.tick es

pub tick-append : (t : ℕ) (xs ys : List Store) → tick_after t (xs ++ ys) ≡ tick_after (tick_after t xs) ys
tick-append t [] ys = refl
tick-append t (x ∷ xs) ys = tick-append x.tick xs ys

pub final-append : (o : Line) (v t : ℕ) (xs ys : List Store) → final o v t (xs ++ ys) ≡ final o (final o v t xs) (tick_after t xs) ys
final-append o v t [] ys = refl
final-append o v t (x ∷ xs) ys = final-append o (level_after o v t x) x.tick xs ys

levels-push : (o : Line) (v t : ℕ) (es : List Store) (e : Store) → levels_from o v t (es ++ (e ∷ [])) ≡ levels_from o v t es ++ (final o v t (es ++ (e ∷ [])) ∷ [])
unfolding levels_from
levels-push o v t [] e = refl
levels-push o v t (d ∷ es) e = ap (λ vs. level_after o v t d ∷ vs) (levels-push o (level_after o v t d) d.tick es e)

pub last-is : (o : Line) (es : List Store) (e : Store) (v : ℕ) → LastLevel o (es ++ (e ∷ [])) v → v ≡ final o 0 0 (es ++ (e ∷ []))
last-is o es e v (last vs h) = (same_from_push vs (levels_from o 0 0 es) v (final o 0 0 (es ++ (e ∷ []))) (sym h ∙ levels-push o 0 0 es e)).1

-- ---- the greatest

pub among-greatest : {u : ℕ} {vs : List ℕ} → Among u vs → u ≤ greatest_of vs
unfolding greatest_of
among-greatest here = omega arith
among-greatest (further h) = let i = among-greatest h in omega (arith, i)

pub greatest-least : (v : ℕ) (vs : List ℕ) → Below v vs → greatest_of vs ≤ v
unfolding greatest_of
greatest-least v [] h = omega arith
greatest-least v (u ∷ us) h =
    let a = h u here in
    let i = greatest-least v us (λ w m. h w (further m)) in
    omega (arith, a, i)

pub greatest-among : (vs : List ℕ) → 0 < greatest_of vs → Among (greatest_of vs) vs
unfolding greatest_of
greatest-among [] h = absurd (omega arith)
greatest-among (u ∷ us) h = ⊎_elim (λ l. later l (greatest-among us (omega (arith, l)))) first (cases_lt u (greatest_of us))
  where
    first : greatest_of us ≤ u → Among (max u (greatest_of us)) (u ∷ us)
    first l = let e : u ≡ max u (greatest_of us) = omega (arith, l) in alike e here

    later : u < greatest_of us → Among (greatest_of us) us → Among (max u (greatest_of us)) (u ∷ us)
    later l m = let e : greatest_of us ≡ max u (greatest_of us) = omega (arith, l) in alike e (further m)
