-- The addresses of n words from a first one: the last alone decides whether one is outside, and a word is hit where it lies between.
-- Assumes nothing.
use mathlib.Core.Path.{◌≡◌, refl, sym, ◌∙◌}
use mathlib.Core.Bool.{Bool, true, false, not, ◌||◌}
use mathlib.Core.Logic.{◌≢◌, ◌⊎◌, inl, inr, ⊎_elim}
use Prim.Native.Nat.{ℕ, zero, suc, ◌+◌, ◌-◌, ◌*◌, ◌/◌, ◌≤◌, ◌<◌}
use native.Mathlib.Omega.{arith}
use lib.Dec.{ltb, leb, eqb}
use borrow.Author.Tests.{lt-ltb, le-ltb, lt-leb, le-leb, ne_eqb, ltb-true, ltb-false, eqb-false}
use Rattle.memory.specs.declared.Board.{Board}
use Rattle.memory.specs.Memory.{place, limit}
use Rattle.stops.specs.Moves.{span}
use Rattle.stops.specs.Stops.{outside, hits}

-- all of n + 1 addresses are inside where the last is
pub inside : (n a : ℕ) (board : Board) → a + 4 * n < limit board → outside (span (suc n) a) board ≡ false
inside zero a board h = simp (lt-ltb a (limit board) (omega arith))
inside (suc n) a board h = simp (lt-ltb a (limit board) (omega arith)) (inside n (a + 4) board (omega arith))

-- and one is outside where the last is
pub some-outside : (n a : ℕ) (board : Board) → limit board ≤ a + 4 * n → outside (span (suc n) a) board ≡ true
some-outside zero a board h = simp (le-ltb a (limit board) (omega arith))
some-outside (suc n) a board h = go (ltb a (limit board)) (some-outside n (a + 4) board (omega arith))
  where
    go : (t : Bool) → outside (span (suc n) (a + 4)) board ≡ true → (not t || outside (span (suc n) (a + 4)) board) ≡ true
    go false k = refl
    go true k = k

pub last_decides : (n a : ℕ) (board : Board) → n ≢ 0 → leb (limit board) (a + 4 * (n - 1)) ≡ outside (span n a) board
last_decides zero a board z = absurd (z refl)
last_decides (suc n) a board z =
    let m : suc n - 1 ≡ n = omega arith in
    rw m (go (ltb (a + 4 * n) (limit board)) refl)
  where
    go : (t : Bool) → ltb (a + 4 * n) (limit board) ≡ t → leb (limit board) (a + 4 * n) ≡ outside (span (suc n) a) board
    go true e = let h : a + 4 * n < limit board = ltb-true _ _ e in lt-leb _ _ h ∙ sym (inside n a board h)
    go false e = let h : limit board ≤ a + 4 * n = ltb-false _ _ e in le-leb _ _ h ∙ sym (some-outside n a board h)

-- a word that is none of these
pub no_hit : (n a b : ℕ) (board : Board) → (b / 4 < a / 4) ⊎ (a / 4 + n ≤ b / 4) → hits (span n a) b board ≡ false
unfolding place
no_hit zero a b board h = refl
no_hit (suc n) a b board h =
    simp (ne_eqb (a / 4) (b / 4) (⊎_elim (λ l e. omega arith) (λ l e. omega arith) h))
    (no_hit n (a + 4) b board (⊎_elim (λ l. inl (omega arith)) (λ l. inr (omega arith)) h))

-- a word from the first on, before the end
pub hit : (n a b : ℕ) (board : Board) → a / 4 ≤ b / 4 → b / 4 < a / 4 + n → hits (span n a) b board ≡ true
unfolding place
hit zero a b board h k = absurd (omega arith)
hit (suc n) a b board h k =
    go (eqb (a / 4) (b / 4)) refl (λ (o : a / 4 ≢ b / 4). hit n (a + 4) b board (omega arith) (omega arith))
  where
    go : (t : Bool) → eqb (a / 4) (b / 4) ≡ t → (a / 4 ≢ b / 4 → hits (span n (a + 4)) b board ≡ true)
        → (t || hits (span n (a + 4)) b board) ≡ true
    go true e r = refl
    go false e r = r (eqb-false (a / 4) (b / 4) e)

pub between : (n a b : ℕ) (board : Board) → a / 4 ≤ b / 4 → ltb (b / 4 - a / 4) n ≡ hits (span n a) b board
between n a b board h = go (ltb (b / 4 - a / 4) n) refl
  where
    go : (t : Bool) → ltb (b / 4 - a / 4) n ≡ t → t ≡ hits (span n a) b board
    go true e = let k : b / 4 - a / 4 < n = ltb-true _ _ e in sym (hit n a b board h (omega arith))
    go false e = let k : n ≤ b / 4 - a / 4 = ltb-false _ _ e in sym (no_hit n a b board (inr (omega arith)))

pub before : (n a b : ℕ) (board : Board) → b / 4 < a / 4 → false ≡ hits (span n a) b board
before n a b board h = sym (no_hit n a b board (inl h))
