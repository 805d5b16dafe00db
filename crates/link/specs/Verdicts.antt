-- What an option is told by, from its levels alone: the second road to the verdict.
use Rattle.std.specs.Prelude.{ℕ, suc, ◌*◌, ◌/◌, ◌≤◌, ◌<◌, ◌≡◌, true, not, ◌&&◌, List, [], ◌∷◌, ◌++◌, length, take, drop}
use Rattle.link.specs.declared.Store.{Store}
use Rattle.link.specs.declared.Line.{Line}
use Rattle.link.specs.Buffer.{levels, backlog, grows, fits, overflow, verdict_of, carries}
use Rattle.link.specs.Gaps.{Among}
use Rattle.link.specs.Spans.{LastLevel}

-- none of these levels is above v
abbrev pub Below : ℕ → List ℕ → Type 0
Below v vs = (u : ℕ) → Among u vs → u ≤ v

-- some level of these is above all of those, and above that of a buffer before its first store
pub record Above (those these : List ℕ) : Type 0 where
  pub level : ℕ
  pub some : 0 < level
  pub there : Among level these
  pub above : (u : ℕ) → Among u those → u < level

pub record Verdicts (o : Line) (es : List Store) : Type 0 where
  -- the backlog is the least number of bits that no level is above
  pub enough : 1 ≤ o.clock → Below (o.clock * backlog o es) (levels o es)
  pub least : (n : ℕ) → 1 ≤ o.clock → Below (o.clock * n) (levels o es) → backlog o es ≤ n
  -- it grows exactly where a level after the first n/2 stores is above all of those
  pub growing : grows o es ≡ true → Above (take (length es / 2) (levels o es)) (drop (length es / 2) (levels o es))
  pub grown : Above (take (length es / 2) (levels o es)) (drop (length es / 2) (levels o es)) → grows o es ≡ true
  -- an option fits exactly where after no store the buffer holds more than it can; and then no overflow is told
  pub fitting : fits o es ≡ true → Below (32 * o.words * o.clock) (levels o es)
  pub fitted : Below (32 * o.words * o.clock) (levels o es) → fits o es ≡ true
  pub none_told : fits o es ≡ true → overflow o es ≡ record { store = 0; tick = 0 }
  -- else the first store with a level above, e, and its tick; what comes after is no matter
  pub one_told : (e : Store) (v : ℕ) (after : List Store) → fits o es ≡ true → LastLevel o (es ++ (e ∷ [])) v → 32 * o.words * o.clock < v
      → overflow o (es ++ (e ∷ after)) ≡ record { store = suc (length es); tick = e.tick }
  -- and an option carries the stores where it fits and does not grow
  pub carrying : carries (verdict_of o es) ≡ (fits o es && not (grows o es))
