-- What is told: the first of the lent stores.
use Rattle.std.specs.Prelude.{ℕ, List, ◌++◌, ◌≡◌, take}
use Rattle.link.specs.declared.Store.{Store}

-- the stores that were told before, and these
abbrev pub Tells : ℕ → List Store → ℕ → List Store → List Store → Type 0
Tells n found m new es = take m new ≡ take n found ++ es
