-- What a summary says, by the list of the stores: the second road to the fold.
use Rattle.std.specs.Prelude.{ℕ, ◌-◌, ◌*◌, ◌^◌, ◌≤◌, ◌<◌, ◌≡◌, List, [], ◌∷◌, ◌++◌, length, map, sum_by, All}
use Rattle.link.specs.declared.Store.{Store}
use Rattle.link.specs.declared.Times.{Times}
use Rattle.link.specs.Summary.{nothing, bits_of, Word, summed}

-- the times between neighbours
unfoldable pub gaps : List ℕ → List ℕ
gaps [] = []
gaps (x ∷ []) = []
gaps (x ∷ (y ∷ ys)) = (y - x) ∷ gaps (y ∷ ys)

-- it stands in a list
pub data Among (x : ℕ) : List ℕ → Type 0 where
  here : {xs : List ℕ} → Among x (x ∷ xs)
  further : {y : ℕ} {xs : List ℕ} → Among x xs → Among x (y ∷ xs)

-- what these times tell of the times of two stores or more: x first, y second
pub record Tells (x y : ℕ) (rest : List ℕ) (t : Times) : Type 0 where
  pub first : t.first ≡ x
  pub last : (xs : List ℕ) (z : ℕ) → x ∷ (y ∷ rest) ≡ xs ++ (z ∷ []) → t.last ≡ z
  pub least : Among t.least (gaps (x ∷ (y ∷ rest)))
  pub no_less : (g : ℕ) → Among g (gaps (x ∷ (y ∷ rest))) → t.least ≤ g
  pub greatest : Among t.greatest (gaps (x ∷ (y ∷ rest)))
  pub no_more : (g : ℕ) → Among g (gaps (x ∷ (y ∷ rest))) → g ≤ t.greatest

abbrev pub cycle_of : Store → ℕ
cycle_of e = e.cycle

abbrev pub tick_of : Store → ℕ
tick_of e = e.tick

-- of one store at x: there is no gap
pub record Alone (x : ℕ) (t : Times) : Type 0 where
  pub first : t.first ≡ x
  pub last : t.last ≡ x
  pub least : t.least ≡ 0
  pub greatest : t.greatest ≡ 0

pub record Summaries : Type 0 where
  -- all stores and all bits are counted
  pub stores : (es : List Store) → length es < 2 ^ 64 → (summed nothing es).stores ≡ length es
  pub bits : (es : List Store) → sum_by bits_of es < 2 ^ 64 → (summed nothing es).bits ≡ sum_by bits_of es
  -- a word each at most, so that the rate's product fits
  pub words : (es : List Store) → All Word es → (summed nothing es).bits ≤ 32 * (summed nothing es).stores
  pub first : (e : Store) (es : List Store) → (summed nothing (e ∷ es)).first_bits ≡ bits_of e
  -- cycles and ticks each for themselves
  pub alone : (e : Store) → Alone e.cycle (summed nothing (e ∷ [])).cycles × Alone e.tick (summed nothing (e ∷ [])).ticks
  pub cycles : (d e : Store) (es : List Store) → Tells d.cycle e.cycle (map cycle_of es) (summed nothing (d ∷ (e ∷ es))).cycles
  pub ticks : (d e : Store) (es : List Store) → Tells d.tick e.tick (map tick_of es) (summed nothing (d ∷ (e ∷ es))).ticks
