-- The link window: byte addresses [from, to), whole words of the memory.
use Rattle.std.specs.Prelude.{ℕ, ◌%◌, ◌≡◌, ◌||◌, ◌&&◌, not, Bool, List, [], ◌∷◌, ◌++◌, ltb, leb, eqb}
use Rattle.bits.specs.Choice.{pick}
use Rattle.link.specs.declared.Store.{Store}
use Rattle.link.specs.declared.Window.{Window}

abbrev pub store : ℕ → ℕ → ℕ → ℕ → Store
store cycle tick address bytes = record { cycle = cycle; tick = tick; address = address; bytes = bytes }

abbrev pub window : ℕ → ℕ → Window
window from to = record { from = from; to = to }

abbrev pub inside : Window → ℕ → Bool
inside w address = leb w.from address && ltb address w.to

abbrev pub within : Window → Store → Bool
within w e = inside w e.address

-- the stores into the window
unfoldable pub handed : Window → List Store → List Store
handed w [] = []
handed w (e ∷ es) = pick (within w e) (e ∷ handed w es) (handed w es)

-- in pieces or at once
abbrev pub Parts : Type 0
Parts = (w : Window) (xs ys : List Store) → handed w (xs ++ ys) ≡ handed w xs ++ handed w ys

-- 58
abbrev pub window_refused : ℕ
window_refused = 58

-- off a word, empty, or outside a memory of n bytes
unfoldable pub bad_window : Window → ℕ → Bool
bad_window w n = not (eqb (w.from % 4) 0) || not (eqb (w.to % 4) 0) || leb w.to w.from || ltb n w.to
