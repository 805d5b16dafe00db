-- The calls by which a program does its cases.
use Rattle.std.specs.Prelude.{ℕ, ◌<◌, ◌-◌, ◌^◌, Bool, true, false, replicate}
use Rattle.std.specs.List.{FoldsTo}

-- so many calls in a row find a case; then one finds none, unless they were as many as a u64 counts
pub record CallsUntilNone {F : Type 0} (answers : F → Bool → F → Type 0) (first : F) : Type 0 where
  pub cases : ℕ
  pub last : F
  pub found : FoldsTo answers first (replicate cases true) last
  pub none : cases < 2 ^ 64 - 1 → (end : F) × answers last false end
