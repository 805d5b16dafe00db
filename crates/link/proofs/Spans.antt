-- The levels by spans. Assumes nothing.
use Rattle.std.proofs.Common.{◌≡◌, ℕ, ◌+◌, ◌-◌, ◌*◌, ◌<◌, ◌≤◌, List, [], ◌∷◌, ◌++◌, append_assoc, sym, ap, subst, ◌∙◌, refl, ⊎_elim, arith}
use Rattle.std.specs.List.{sum_by}
use Rattle.std.proofs.lemmas.Bool.{cases_lt}
use Rattle.std.proofs.lemmas.List.{append-nil}
use Rattle.std.proofs.lemmas.List.Sums.{sum_by-cons, sum_by-append}
use Rattle.link.specs.declared.Store.{Store}
use Rattle.link.specs.declared.Line.{Line}
use Rattle.link.specs.Summary.{bits_of}
use Rattle.link.specs.Buffer.{speed, level_after}
use Rattle.link.specs.Spans.{Rises, Rising, LastLevel, Span, given, Spans}
use Rattle.link.proofs.Walk.{levels-length}
use Rattle.link.proofs.Levels.{tick_after, final, tick-append, last-is}

-- what stores hand over, times the clock
abbrev handed : Line → List Store → ℕ
handed o es = sum_by bits_of es * o.clock

handed-cons : (o : Line) (e : Store) (es : List Store) → handed o (e ∷ es) ≡ bits_of e * o.clock + handed o es
handed-cons o e es = ap (λ n. n * o.clock) (sum_by-cons bits_of e es) ∙ omega arith

handed-one : (o : Line) (e : Store) → handed o (e ∷ []) ≡ bits_of e * o.clock
handed-one o e = handed-cons o e [] ∙ omega arith

handed-push : (o : Line) (es : List Store) (e : Store) → handed o (es ++ (e ∷ [])) ≡ handed o es + bits_of e * o.clock
handed-push o es e =
    let one = handed-one o e in
    ap (λ n. n * o.clock) (sum_by-append bits_of es (e ∷ [])) ∙ omega (arith, one)

-- what is taken in two stretches of ticks
stretches : (k t u w : ℕ) → t ≤ u → u ≤ w → k * (u - t) + k * (w - u) ≡ k * (w - t)
stretches k t u w h i = let e : w - t ≡ (u - t) + (w - u) = omega arith in sym (ap (λ n. k * n) e ∙ apart (u - t) (w - u))
  where
    apart : (x y : ℕ) → k * (x + y) ≡ k * x + k * y
    apart x y = omega arith

no_ticks : (k t : ℕ) → k * (t - t) ≡ 0
no_ticks k t = let e : t - t ≡ 0 = omega arith in rw e (omega arith)

later : (t : ℕ) (es : List Store) → Rises t es → t ≤ tick_after t es
later t [] r = omega arith
later t (e ∷ es) (h, r) = let i = later e.tick es r in omega (arith, i)

-- ---- no span hands over more

from_level : (o : Line) (v t : ℕ) (es : List Store) → Rises t es → v + handed o es ≤ final o v t es + speed o * (tick_after t es - t)
from_level o v t [] r = omega arith
from_level o v t (e ∷ es) (h, r) =
    let i = from_level o (level_after o v t e) e.tick es r in
    let l = later e.tick es r in
    let s = stretches (speed o) t e.tick (tick_after e.tick es) h l in
    let c = handed-cons o e es in
    omega (arith, i, s, c)

span_covered : (o : Line) (v t : ℕ) (before : List Store) (d : Store) (rest : List Store) → Rises t (before ++ (d ∷ rest))
    → handed o (d ∷ rest) ≤ final o v t (before ++ (d ∷ rest)) + speed o * (tick_after d.tick rest - d.tick)
span_covered o v t [] d rest (h, r) =
    let i = from_level o (level_after o v t d) d.tick rest r in
    let c = handed-cons o d rest in
    omega (arith, i, c)
span_covered o v t (x ∷ xs) d rest (h, r) = span_covered o (level_after o v t x) x.tick xs d rest r

last_tick : (es : List Store) (e : Store) → tick_after 0 (es ++ (e ∷ [])) ≡ e.tick
last_tick es e = tick-append 0 es (e ∷ [])

covered : (o : Line) (es : List Store) (e : Store) (v : ℕ) → Rising (es ++ (e ∷ [])) → LastLevel o (es ++ (e ∷ [])) v
    → (s : Span (es ++ (e ∷ []))) → given o s ≤ v + speed o * (e.tick - s.d.tick)
covered o es e v r l s =
    let c = span_covered o 0 0 s.before s.d s.rest (subst (Rises 0) s.splits r) in
    let level : final o 0 0 (s.before ++ (s.d ∷ s.rest)) ≡ v = sym (last-is o es e v l ∙ ap (final o 0 0) s.splits) in
    let tick : tick_after s.d.tick s.rest ≡ e.tick = sym (tick-append 0 s.before (s.d ∷ s.rest)) ∙ ap (tick_after 0) (sym s.splits) ∙ last_tick es e in
    rw (level, tick) at c

-- ---- and one hands over just that

record Reaches (o : Line) (seen : List Store) (v t : ℕ) : Type 0 where
  span : Span seen
  below : span.d.tick ≤ t
  just : given o span ≡ v + speed o * (t - span.d.tick)

first : (o : Line) (e : Store) → Reaches o (e ∷ []) (level_after o 0 0 e) e.tick
first o e =
    let one = handed-one o e in
    let none = no_ticks (speed o) e.tick in
    record {
      span = record { before = []; d = e; rest = []; splits = refl };
      below = omega arith;
      just = omega (arith, one, none);
    }

more : (o : Line) (seen : List Store) (v t : ℕ) (e : Store) → t ≤ e.tick → Reaches o seen v t → Reaches o (seen ++ (e ∷ [])) (level_after o v t e) e.tick
more o seen v t e h r = ⊎_elim alone joined (cases_lt v (speed o * (e.tick - t)))
  where
    alone : v < speed o * (e.tick - t) → Reaches o (seen ++ (e ∷ [])) (level_after o v t e) e.tick
    alone l =
        let one = handed-one o e in
        let none = no_ticks (speed o) e.tick in
        record {
          span = record { before = seen; d = e; rest = []; splits = refl };
          below = omega arith;
          just = omega (arith, one, l, none);
        }

    joined : speed o * (e.tick - t) ≤ v → Reaches o (seen ++ (e ∷ [])) (level_after o v t e) e.tick
    joined l =
        let d = r.span.d in
        let push = handed-push o (d ∷ r.span.rest) e in
        let s = stretches (speed o) d.tick t e.tick r.below h in
        record {
          span = record {
            before = r.span.before;
            d = d;
            rest = r.span.rest ++ (e ∷ []);
            splits = ap (λ es. es ++ (e ∷ [])) r.span.splits ∙ append_assoc r.span.before (d ∷ r.span.rest) (e ∷ []);
          };
          below = omega (arith, r.below, h);
          just = omega (arith, push, s, l, r.just);
        }

all : (o : Line) (seen : List Store) (v t : ℕ) (es : List Store) → Rises t es → Reaches o seen v t → Reaches o (seen ++ es) (final o v t es) (tick_after t es)
all o seen v t [] r s = subst (λ l. Reaches o l v t) (sym (append-nil seen)) s
all o seen v t (e ∷ es) (h, r) s =
    subst (λ l. Reaches o l (final o v t (e ∷ es)) (tick_after t (e ∷ es))) (append_assoc seen (e ∷ []) es)
    (all o (seen ++ (e ∷ [])) (level_after o v t e) e.tick es r (more o seen v t e h s))

some : (o : Line) (es : List Store) (e : Store) → Rising (es ++ (e ∷ []))
    → Reaches o (es ++ (e ∷ [])) (final o 0 0 (es ++ (e ∷ []))) (tick_after 0 (es ++ (e ∷ [])))
some o [] e r = first o e
some o (x ∷ xs) e (h, r) = all o (x ∷ []) (level_after o 0 0 x) x.tick (xs ++ (e ∷ [])) r (first o x)

reached : (o : Line) (es : List Store) (e : Store) (v : ℕ) → Rising (es ++ (e ∷ [])) → LastLevel o (es ++ (e ∷ [])) v
    → (s : Span (es ++ (e ∷ []))) × (given o s ≡ v + speed o * (e.tick - s.d.tick))
reached o es e v r l =
    let s = some o es e r in
    let level = sym (last-is o es e v l) in
    let tick = last_tick es e in
    (s.span, rw (level, tick) at s.just)

pub spans : Spans
spans = record { each = λ o es. levels-length o 0 0 es; covers = covered; tight = reached }
