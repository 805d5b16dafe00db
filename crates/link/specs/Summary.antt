-- The summary of stores, folded one by one, so that it does not depend on how the stores come in pieces.
use Rattle.std.specs.Prelude.{ℕ, zero, suc, ◌+◌, ◌-◌, ◌*◌, ◌^◌, ◌≤◌, ◌≡◌, min, max, List, ◌++◌, fold}
use Rattle.link.specs.declared.Store.{Store}
use Rattle.link.specs.declared.Times.{Times}
use Rattle.link.specs.declared.Summary.{Summary}

abbrev pub times : ℕ → ℕ → ℕ → ℕ → Times
times first last least greatest = record { first = first; last = last; least = least; greatest = greatest }

abbrev pub summary : ℕ → ℕ → ℕ → Times → Times → Summary
summary stores bits first_bits cycles ticks = record { stores = stores; bits = bits; first_bits = first_bits; cycles = cycles; ticks = ticks }

-- of no stores
abbrev pub nothing : Summary
nothing = summary 0 0 0 (times 0 0 0 0) (times 0 0 0 0)

-- counts stay at 2^64-1 where they would pass it; no run comes near
abbrev pub capped : ℕ → ℕ
capped n = min n (2 ^ 64 - 1)

abbrev pub bits_of : Store → ℕ
bits_of e = 8 * e.bytes

-- no store brings more than a word
abbrev pub Word : Store → Type 0
Word e = e.bytes ≤ 4

-- of one store, at x: there is no gap
abbrev pub started : ℕ → Times
started x = times x x 0 0

-- a store at x after n others: the second has the only gap
abbrev pub timed : ℕ → Times → ℕ → Times
timed zero t x = started x
timed (suc zero) t x = times t.first x (x - t.last) (x - t.last)
timed (suc (suc n)) t x = times t.first x (min t.least (x - t.last)) (max t.greatest (x - t.last))

-- of the first store, whatever stood there, and with one store more
abbrev alone : Store → Summary
alone e = summary 1 (bits_of e) (bits_of e) (started e.cycle) (started e.tick)

abbrev more : Summary → Store → Summary
more s e = summary (capped (suc s.stores)) (capped (s.bits + bits_of e)) s.first_bits (timed s.stores s.cycles e.cycle) (timed s.stores s.ticks e.tick)

unfoldable pub noted : Summary → Store → Summary
noted s e = elim s.stores [ zero ↦ alone e | suc n ↦ more s e ]

abbrev pub summed : Summary → List Store → Summary
summed s es = fold noted s es

-- in pieces or at once
abbrev pub Splits : Type 0
Splits = (s : Summary) (xs ys : List Store) → summed s (xs ++ ys) ≡ summed (summed s xs) ys
