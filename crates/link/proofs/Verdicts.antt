-- The verdict by the levels alone. Assumes nothing.
use Rattle.std.proofs.Common.{◌≡◌, ℕ, suc, ◌+◌, ◌-◌, ◌*◌, ◌/◌, ◌<◌, ◌≤◌, Bool, true, false, not, ◌&&◌, List, [], ◌∷◌, ◌++◌, length, take, drop, ltb, leb, eqb, ap, ◌∙◌, refl, arith}
use Rattle.std.proofs.lemmas.Bool.{ltb-true, ltb-false, lt-ltb, le-ltb, leb-true, leb-false, le-leb, ne_eqb}
use Rattle.bits.specs.Choice.{pick}
use Rattle.link.specs.declared.Store.{Store}
use Rattle.link.specs.declared.Line.{Line}
use Rattle.link.specs.Buffer.{holds, level_after, levels_from, levels, greatest_of, grows, fits, Overflow, overflow_from, overflow}
use Rattle.link.specs.Verdicts.{Above, Verdicts}
use Rattle.link.proofs.Rates.{round_enough, round_least}
use Rattle.link.proofs.Levels.{final, last-is, among-greatest, greatest-least, greatest-among}

grows_above : (o : Line) (es : List Store) → grows o es ≡ true → Above (take (length es / 2) (levels o es)) (drop (length es / 2) (levels o es))
unfolding grows
grows_above o es g =
    let l = ltb-true _ _ g in
    record {
      level = greatest_of (drop (length es / 2) (levels o es));
      some = omega (arith, l);
      there = greatest-among (drop (length es / 2) (levels o es)) (omega (arith, l));
      above = λ u m. let a = among-greatest m in omega (arith, a, l);
    }

above_grows : (o : Line) (es : List Store) → Above (take (length es / 2) (levels o es)) (drop (length es / 2) (levels o es)) → grows o es ≡ true
unfolding grows
above_grows o es a =
    let early = take (length es / 2) (levels o es) in
    let one_less : greatest_of early ≤ a.level - 1 = greatest-least (a.level - 1) early (λ u m. let b = a.above u m in omega (arith, b)) in
    let late = among-greatest a.there in
    lt-ltb _ _ (omega (arith, one_less, late, a.some))

abbrev told : ℕ → ℕ → Overflow
told k t = record { store = k; tick = t }

none-over : (o : Line) (n v t : ℕ) (es : List Store) → greatest_of (levels_from o v t es) ≤ holds o → overflow_from o n v t es ≡ told 0 0
unfolding levels_from greatest_of overflow_from
none-over o n v t [] h = refl
none-over o n v t (e ∷ es) h =
    let low = le-ltb (holds o) (level_after o v t e) (omega (arith, h)) in
    rw low (none-over o (suc n) (level_after o v t e) e.tick es (omega (arith, h)))

first-over : (o : Line) (n v t : ℕ) (es : List Store) (e : Store) (after : List Store) → greatest_of (levels_from o v t es) ≤ holds o
    → holds o < final o v t (es ++ (e ∷ [])) → overflow_from o n v t (es ++ (e ∷ after)) ≡ told (suc (n + length es)) e.tick
unfolding levels_from greatest_of overflow_from
first-over o n v t [] e after h l =
    let high = lt-ltb (holds o) (level_after o v t e) l in
    let here : suc n ≡ suc (n + 0) = omega arith in
    rw high (ap (λ k. told k e.tick) here)
first-over o n v t (d ∷ es) e after h l =
    let low = le-ltb (holds o) (level_after o v t d) (omega (arith, h)) in
    let on : suc (suc n + length es) ≡ suc (n + suc (length es)) = omega arith in
    rw low (first-over o (suc n) (level_after o v t d) d.tick es e after (omega (arith, h)) l ∙ ap (λ k. told k e.tick) on)

some-over : (o : Line) (n v t : ℕ) (es : List Store) → holds o < greatest_of (levels_from o v t es) → 0 < (overflow_from o n v t es).store
unfolding levels_from greatest_of overflow_from
some-over o n v t [] h = absurd (omega arith)
some-over o n v t (e ∷ es) h = go (some-over o (suc n) (level_after o v t e) e.tick es) (ltb (holds o) (level_after o v t e)) refl
  where
    go : (holds o < greatest_of (levels_from o (level_after o v t e) e.tick es) → 0 < (overflow_from o (suc n) (level_after o v t e) e.tick es).store) → (b : Bool)
        → ltb (holds o) (level_after o v t e) ≡ b → 0 < (pick b (told (suc n) e.tick) (overflow_from o (suc n) (level_after o v t e) e.tick es)).store
    go later true b = omega arith
    go later false b = let low = ltb-false (holds o) (level_after o v t e) b in later (omega (arith, h, low))

fits-told : (o : Line) (es : List Store) → eqb (overflow o es).store 0 ≡ fits o es
unfolding fits
fits-told o es = go (fits o es) refl
  where
    go : (b : Bool) → leb (greatest_of (levels o es)) (holds o) ≡ b → eqb (overflow o es).store 0 ≡ b
    go true f = rw (none-over o 0 0 0 es (leb-true _ _ f)) refl
    go false f = let s = some-over o 0 0 0 es (leb-false _ _ f) in ne_eqb _ _ (λ z. absurd (omega (arith, s, z)))

pub verdicts : (o : Line) (es : List Store) → Verdicts o es
unfolding fits
verdicts o es = record {
  enough = λ c u m. let g = among-greatest m in let r = round_enough (greatest_of (levels o es)) o.clock c in omega (arith, g, r);
  least = λ n c b. round_least (greatest_of (levels o es)) o.clock n c (greatest-least (o.clock * n) (levels o es) b);
  growing = grows_above o es;
  grown = above_grows o es;
  fitting = λ f u m. let g = among-greatest m in let l = leb-true _ _ f in omega (arith, g, l);
  fitted = λ b. le-leb _ _ (greatest-least (holds o) (levels o es) b);
  none_told = λ f. none-over o 0 0 0 es (leb-true _ _ f);
  carrying = ap (λ b. b && not (grows o es)) (fits-told o es);
  one_told = λ e v after f l h. first-over o 0 0 0 es e after (leb-true _ _ f) (rw (last-is o es e v l) at h) ∙ from_zero e;
}
  where
    from_zero : (e : Store) → told (suc (0 + length es)) e.tick ≡ told (suc (length es)) e.tick
    from_zero e = let z : suc (0 + length es) ≡ suc (length es) = omega arith in ap (λ k. told k e.tick) z
