-- The second road to the levels: by spans of stores, as a queue is measured. The level after a store is the greatest, over the spans that end with
-- it, of what a span hands over less what the option takes between its first store and its last.
use Rattle.std.specs.Prelude.{ℕ, ◌+◌, ◌-◌, ◌*◌, ◌≤◌, ◌≡◌, List, [], ◌∷◌, ◌++◌, length, sum_by}
use Rattle.link.specs.declared.Store.{Store}
use Rattle.link.specs.declared.Line.{Line}
use Rattle.link.specs.Summary.{bits_of}
use Rattle.link.specs.Buffer.{levels}

-- ticks do not fall, from t on
abbrev pub Rises : ℕ → List Store → Type 0
Rises t [] = Unit {0}
Rises t (e ∷ es) = (t ≤ e.tick) × Rises e.tick es

abbrev pub Rising : List Store → Type 0
Rising es = Rises 0 es

-- the last level of some stores
pub data LastLevel (o : Line) (es : List Store) (v : ℕ) : Type 0 where
  last : (vs : List ℕ) → levels o es ≡ vs ++ (v ∷ []) → LastLevel o es v

-- the stores from d on
pub record Span (es : List Store) : Type 0 where
  pub before : List Store
  pub d : Store
  pub rest : List Store
  pub splits : es ≡ before ++ (d ∷ rest)

-- what a span hands over, times the clock
abbrev pub given : {es : List Store} → Line → Span es → ℕ
given o s = sum_by bits_of (s.d ∷ s.rest) * o.clock

pub record Spans : Type 0 where
  -- there is a level after each store
  pub each : (o : Line) (es : List Store) → length (levels o es) ≡ length es
  -- no span that ends with the last store e hands over more than the level v and what the option took since the span's first
  pub covers : (o : Line) (es : List Store) (e : Store) (v : ℕ) → Rising (es ++ (e ∷ [])) → LastLevel o (es ++ (e ∷ [])) v
      → (s : Span (es ++ (e ∷ []))) → given o s ≤ v + 1000 * o.kilobits * (e.tick - s.d.tick)
  -- and one hands over just that
  pub tight : (o : Line) (es : List Store) (e : Store) (v : ℕ) → Rising (es ++ (e ∷ [])) → LastLevel o (es ++ (e ∷ [])) v
      → (s : Span (es ++ (e ∷ []))) × (given o s ≡ v + 1000 * o.kilobits * (e.tick - s.d.tick))
