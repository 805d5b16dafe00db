-- The rate that stores came at: told, and deciding nothing.
use Rattle.std.specs.Prelude.{ℕ, ◌+◌, ◌-◌, ◌*◌, ◌/◌, ◌<◌, ◌≤◌, ◌≡◌}
use Rattle.link.specs.declared.Summary.{Summary}

-- all bits but the first store's, and the ticks from the first store to the last
abbrev pub later_bits : Summary → ℕ
later_bits s = s.bits - s.first_bits

abbrev pub span : Summary → ℕ
span s = s.ticks.last - s.ticks.first

-- a quotient rounded up; by 0 it is 0
abbrev pub rounded_up : ℕ → ℕ → ℕ
rounded_up x y = (x + y - 1) / y

-- in tenths of a kb/s, on a clock of so many ticks a second: a tenth is 100 bits a second
unfoldable pub rate : Summary → ℕ → ℕ
rate s clock = rounded_up (later_bits s * clock) (100 * span s)

-- it is the least at which these ticks carry the later bits
pub record Rates (s : Summary) (clock : ℕ) : Type 0 where
  pub enough : s.ticks.first < s.ticks.last → (s.bits - s.first_bits) * clock ≤ 100 * (s.ticks.last - s.ticks.first) * rate s clock
  pub least : (n : ℕ) → s.ticks.first < s.ticks.last → (s.bits - s.first_bits) * clock ≤ 100 * (s.ticks.last - s.ticks.first) * n → rate s clock ≤ n
  pub none : s.ticks.last ≤ s.ticks.first → rate s clock ≡ 0
