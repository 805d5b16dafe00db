-- What a listener was told: all stores of so many cycles in their order, piece by piece, each with the cycles done by its end.
use Rattle.std.specs.Prelude.{ℕ, ◌+◌, List, [], ◌++◌}
use Rattle.link.specs.declared.Store.{Store}

pub data Heard {L : Type 0} (hears : L → List Store → ℕ → L → Type 0) (l₀ : L) : ℕ → List Store → L → Type 0 where
  nothing : Heard hears l₀ 0 [] l₀
  piece : {t : ℕ} (u : ℕ) {es more : List Store} {l l' : L} → Heard hears l₀ t es l → hears l more (t + u) l' → Heard hears l₀ (t + u) (es ++ more) l'
