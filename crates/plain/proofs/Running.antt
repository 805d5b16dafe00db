-- A call that ends before its first step or goes on, and what is left to run after u steps, of either engine.
-- Assumes nothing.
use Prim.Native.Nat.{ℕ, zero, suc, ◌+◌, ◌≤◌, ◌<◌}
use mathlib.Core.Path.{◌≡◌, refl, sym, ap, ◌∙◌}
use native.Mathlib.Nat.{zero-add, add-zero}
use native.Mathlib.Omega.{arith}
use borrow.Author.Tests.{eq-eqb, ne_eqb}
use Rattle.plain.specs.Running.{Ran, ran, one_more, more_by, Engine, runs, unless}

-- a call that a number ends, and one that goes on
module _ {M : Type 0} (m : M) (r : Ran M) {q x : ℕ} (e : q ≡ x) where
  pub ends_by : (q ≡ 0 → ⊥) → ran q 0 m ≡ unless x m r
  ends_by n = rw (← e, ne_eqb q 0 n)

  pub goes_by : q ≡ 0 → r ≡ unless x m r
  goes_by z = rw (← e, eq-eqb q 0 z)

module _ {M : Type 0} (e : Engine M) where
  -- by the stop that is found
  abbrev pub found : ℕ → ℕ → M → Ran M
  found q n m = elim q [ zero ↦ one_more (runs e n (e.next m)) | suc s ↦ ran (suc s) 0 (e.stopped m (suc s)) ]

  pub runs_by : (n : ℕ) (m : M) {q : ℕ} → e.finds m ≡ q → runs e (suc n) m ≡ found q n m
  unfolding runs
  runs_by n m f = ap (λ (q : ℕ). found q n m) f

  -- no run counts more than its budget
  pub used-at-most : (b : ℕ) (m : M) → (runs e b m).used ≤ b
  unfolding runs
  used-at-most zero m = omega arith
  used-at-most (suc b) m = go (e.finds m) (used-at-most b (e.next m))
    where
      go : (q : ℕ) → (runs e b (e.next m)).used ≤ b → (found q b m).used ≤ suc b
      go zero h = omega arith
      go (suc q) h = omega arith

  -- u steps on from m₀ it stands at m
  pub record Left (budget : ℕ) (m₀ : M) (u : ℕ) (m : M) : Type 0 where
    pub rest : ℕ
    pub sum : u + rest ≡ budget
    pub same : runs e budget m₀ ≡ more_by u (runs e rest m)

  pub left-start : (b : ℕ) (m : M) → Left b m 0 m
  left-start b m = record { rest = b; sum = zero-add b; same = rw (zero-add (runs e b m).used) }

  module _ {b u : ℕ} {m₀ m : M} (l : Left b m₀ u m) where
    pub left_step : u < b → {k : M} → k ≡ e.next m → e.finds m ≡ 0 → Left b m₀ (u + 1) k
    left_step h w f = rw w (go l.rest l.sum l.same)
      where
        go : (r : ℕ) → u + r ≡ b → runs e b m₀ ≡ more_by u (runs e r m) → Left b m₀ (u + 1) (e.next m)
        go zero i j = absurd (omega arith)
        go (suc r) i j =
            let after = runs e r (e.next m) in
            let one : u + suc after.used ≡ u + 1 + after.used = omega arith in
            record {
              rest = r;
              sum = omega arith;
              same = j ∙ ap (more_by u) (runs_by r m f) ∙ ap (λ (n : ℕ). ran after.answer n after.machine) one;
            }

    pub left-stop : u < b → {q : ℕ} {k : M} → k ≡ e.stopped m q → e.finds m ≡ q → (q ≡ 0 → ⊥) → ran q u k ≡ runs e b m₀
    left-stop h {q} w f n = rw w (go q f n l.rest l.sum l.same)
      where
        go : (q : ℕ) → e.finds m ≡ q → (q ≡ 0 → ⊥) → (r : ℕ) → u + r ≡ b → runs e b m₀ ≡ more_by u (runs e r m) → ran q u (e.stopped m q) ≡ runs e b m₀
        go zero f n r i j = absurd (n refl)
        go (suc q) f n zero i j = absurd (omega arith)
        go (suc q) f n (suc r) i j = sym (j ∙ ap (more_by u) (runs_by r m f) ∙ ap (λ (x : ℕ). ran (suc q) x (e.stopped m (suc q))) (add-zero u))

    pub left-done : b ≤ u → ran 0 u m ≡ runs e b m₀
    unfolding runs
    left-done h =
        let z : l.rest ≡ 0 = omega (arith, l.sum) in
        sym (l.same ∙ ap (λ (r : ℕ). more_by u (runs e r m)) z ∙ ap (λ (x : ℕ). ran 0 x m) (add-zero u))
