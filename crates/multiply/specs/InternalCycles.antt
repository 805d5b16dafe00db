-- m, the internal cycles of a multiply (paper 02 §1): by the value of Rs, as a number without sign.
use Rattle.std.specs.Prelude.{ℕ, zero, suc, ◌-◌, ◌*◌, ◌^◌, ◌≤◌, ◌<◌, ◌≡◌, ◌↔◌, ltb}
use Rattle.bits.specs.Choice.{pick}

-- the first m, of n + 1 from m on, with v below 2^(2m-1); where there is none, the last
unfoldable pub first_above : ℕ → ℕ → ℕ → ℕ
first_above zero m v = m
first_above (suc n) m v = pick (ltb v (2 ^ (2 * m - 1))) m (first_above n (suc m) v)

-- of 1 to 16
unfoldable pub m_of : ℕ → ℕ
m_of v = first_above 15 1 v

-- the paper's sentence
pub record Ranges (v : ℕ) : Type 0 where
  -- m is 1 for Rs below 2
  pub low : v < 2 → m_of v ≡ 1
  -- 16 for Rs from 2^29
  pub high : 2 ^ 29 ≤ v → m_of v ≡ 16
  -- else the m with 2^(2m-3) ≤ Rs < 2^(2m-1), and no other
  pub between : 2 ≤ v → v < 2 ^ 29 → (m : ℕ) → (m_of v ≡ m) ↔ ((2 ^ (2 * m - 3) ≤ v) × (v < 2 ^ (2 * m - 1)))

abbrev pub InternalCycles : Type 0
InternalCycles = (v : ℕ) → Ranges v
