-- The buffer of an option: empty before the first store; at each store it first drains what the option carries in the ticks since the last one, never
-- below empty, then takes the store's bits, and then is measured. Levels are bits times the clock: an option of r kb/s takes 1000 r a tick.
use Rattle.std.specs.Prelude.{ℕ, suc, ◌+◌, ◌-◌, ◌*◌, ◌/◌, max, Bool, not, ◌&&◌, List, [], ◌∷◌, length, take, drop, ltb, leb, eqb}
use Rattle.bits.specs.Choice.{pick}
use Rattle.link.specs.declared.Store.{Store}
use Rattle.link.specs.declared.Line.{Line}
use Rattle.link.specs.declared.Verdict.{Verdict}
use Rattle.link.specs.Summary.{bits_of}
use Rattle.link.specs.Rate.{rounded_up}

-- what a tick takes
abbrev pub speed : Line → ℕ
speed o = 1000 * o.kilobits

-- what the buffer holds: at it is no overflow
abbrev pub holds : Line → ℕ
holds o = 32 * o.words * o.clock

-- the level after a store, from the level after the one at tick t
abbrev pub level_after : Line → ℕ → ℕ → Store → ℕ
level_after o v t e = (v - speed o * (e.tick - t)) + bits_of e * o.clock

-- after each store
unfoldable pub levels_from : Line → ℕ → ℕ → List Store → List ℕ
levels_from o v t [] = []
levels_from o v t (e ∷ es) = level_after o v t e ∷ levels_from o (level_after o v t e) e.tick es

abbrev pub levels : Line → List Store → List ℕ
levels o es = levels_from o 0 0 es

unfoldable pub greatest_of : List ℕ → ℕ
greatest_of [] = 0
greatest_of (x ∷ xs) = max x (greatest_of xs)

-- the greatest level in bits, rounded up
abbrev pub backlog : Line → List Store → ℕ
backlog o es = rounded_up (greatest_of (levels o es)) o.clock

-- the greatest level over all but the first n/2 stores is above that over the first n/2
unfoldable pub grows : Line → List Store → Bool
grows o es =
    let half = length es / 2 in
    ltb (greatest_of (take half (levels o es))) (greatest_of (drop half (levels o es)))

-- no level above what the buffer holds
unfoldable pub fits : Line → List Store → Bool
fits o es = leb (greatest_of (levels o es)) (holds o)

-- the first store whose level is above, counted on from n, and its tick; 0 and 0 where none is
pub record Overflow : Type 0 where
  pub store : ℕ
  pub tick : ℕ

unfoldable pub overflow_from : Line → ℕ → ℕ → ℕ → List Store → Overflow
overflow_from o n v t [] = record { store = 0; tick = 0 }
overflow_from o n v t (e ∷ es) =
    pick (ltb (holds o) (level_after o v t e))
    (record { store = suc n; tick = e.tick })
    (overflow_from o (suc n) (level_after o v t e) e.tick es)

abbrev pub overflow : Line → List Store → Overflow
overflow o es = overflow_from o 0 0 0 es

-- what an option is told by
abbrev pub verdict_of : Line → List Store → Verdict
verdict_of o es = record { backlog = backlog o es; grows = grows o es; overflow = (overflow o es).store; overflow_tick = (overflow o es).tick }

-- an option can be chosen that fits and does not grow
abbrev pub carries : Verdict → Bool
carries v = eqb v.overflow 0 && not v.grows
