-- The laws of the named registers: how many there are, which is the lowest, what is left without it, and that they rise.
-- Assumes nothing.
use Rattle.std.proofs.Common.{◌≡◌, ℕ, zero, suc, ◌+◌, ◌-◌, ◌*◌, ◌/◌, ◌%◌, ◌^◌, ◌<◌, ◌≤◌, ◌⊎◌, List, [], ◌∷◌, length, get_or, drop, sym, subst, refl, ap, ◌∙◌, inl, inr, ⊎_elim, add-zero, mod-eq_of_lt, mul_assoc, mul_comm, eq-zero-or-pos, add_comm, one-mul, pow-suc, mul-zero, zero-add, mul-suc, add-one, arith, eq-eqb, ne_eqb}
use mathlib.Core.List.{tail}
use lib.Count.{ones_in, ones, ones_step, count_trailing_zeros}
use lib.Seq.{drop-nil}
use lib.Pow.{mod-pow-add}
use Rattle.bits.specs.Bits.{bit, field}
use Rattle.transfer.specs.Block.{named_from, named, list_of}

-- ---- one bit of a list

-- a number is even or odd
abbrev pub Parity : ℕ → Type 0
Parity x = (x % 2 ≡ 0) ⊎ (x % 2 ≡ 1)

pub parity : (x : ℕ) → Parity x
parity x = ⊎_elim inl (λ (p : 0 < x % 2). inr (omega arith)) (eq-zero-or-pos (x % 2))

module _ (k n x : ℕ) where
  pub from-odd : x % 2 ≡ 1 → named_from (suc k) n x ≡ n ∷ named_from k (suc n) (x / 2)
  unfolding named_from bit field
  from-odd e = rw (eq-eqb (x / 1 % 2) 1 (omega arith))

  pub from-even : x % 2 ≡ 0 → named_from (suc k) n x ≡ named_from k (suc n) (x / 2)
  unfolding named_from bit field
  from-even e = rw (ne_eqb (x / 1 % 2) 1 (λ f. omega arith))

-- the low bits of a number, the lowest apart
pub mod-suc : (x k : ℕ) → x % 2 ^ suc k ≡ x / 2 % 2 ^ k * 2 + x % 2
mod-suc x k = rw (← add-one k) (mod-pow-add x k 1)

-- ---- the count

from-count : (k n x : ℕ) → x < 2 ^ k → ones x ≡ length (named_from k n x)
unfolding named_from ones ones_in
from-count zero n x h = let e : x ≡ 0 = omega arith in rw e
from-count (suc k) n x h = go (from-count k (suc n) (x / 2) (omega (arith, pow-suc 2 k))) (parity x)
  where
    go : ones (x / 2) ≡ length (named_from k (suc n) (x / 2)) → Parity x → ones x ≡ length (named_from (suc k) n x)
    go rest (inl e) = ones_step x ∙ rw (e, from-even k n x e, rest) (omega arith)
    go rest (inr e) = ones_step x ∙ rw (e, from-odd k n x e, rest) (omega arith)

-- a list has as many ones as it names registers
pub named_count : (list : ℕ) → list < 2 ^ 16 → ones list ≡ length (named list)
unfolding named
named_count list h = from-count 16 0 list h

from-length : (k n x : ℕ) → length (named_from k n x) ≤ k
unfolding named_from
from-length zero n x = omega arith
from-length (suc k) n x = go (from-length k (suc n) (x / 2)) (parity x)
  where
    go : length (named_from k (suc n) (x / 2)) ≤ k → Parity x → length (named_from (suc k) n x) ≤ suc k
    go rest (inl e) = rw (from-even k n x e) (omega arith)
    go rest (inr e) = rw (from-odd k n x e) (omega arith)

pub named-length : (list : ℕ) → length (named list) ≤ 16
unfolding named
named-length list = from-length 16 0 list

-- ---- only the low bits name registers

from-mod : (k n x : ℕ) → named_from k n (x % 2 ^ k) ≡ named_from k n x
unfolding named_from
from-mod zero n x = refl
from-mod (suc k) n x = go (from-mod k (suc n) (x / 2)) (parity x)
  where
    half : x % 2 ^ suc k / 2 ≡ x / 2 % 2 ^ k
    half = omega (arith, mod-suc x k)

    go : named_from k (suc n) (x / 2 % 2 ^ k) ≡ named_from k (suc n) (x / 2) → Parity x
        → named_from (suc k) n (x % 2 ^ suc k) ≡ named_from (suc k) n x
    go rest (inl e) = rw (from-even k n x e, from-even k n (x % 2 ^ suc k) (omega (arith, mod-suc x k)), half) rest
    go rest (inr e) =
        rw (from-odd k n x e, from-odd k n (x % 2 ^ suc k) (omega (arith, mod-suc x k)), half) (ap (λ (l : List ℕ). n ∷ l) rest)

pub named-mod : (list : ℕ) → named (list % 65536) ≡ named list
unfolding named
named-mod list = from-mod 16 0 list

-- n is a count of set bits
pub named-below : (list : ℕ) → ones (list % 2 ^ 16) ≡ length (named list)
named-below list = named_count (list % 2 ^ 16) (omega arith) ∙ ap length (named-mod list)

-- ---- the lowest register, and the others

module _ (m x : ℕ) where
  trailing_odd : x % 2 ≡ 1 → count_trailing_zeros (suc m) x ≡ 0
  unfolding count_trailing_zeros
  trailing_odd e = rw e

  trailing_even : x % 2 ≡ 0 → count_trailing_zeros (suc m) x ≡ suc (count_trailing_zeros m (x / 2))
  unfolding count_trailing_zeros
  trailing_even e = rw e

from_step : (k n m x : ℕ) → k ≤ m → 0 < x % 2 ^ k
    → named_from k n x ≡ (n + count_trailing_zeros m x) ∷ named_from k n (x - 2 ^ count_trailing_zeros m x)
from_step zero n m x l h = absurd (omega arith)
from_step (suc k) n zero x l h = absurd (omega arith)
from_step (suc k) n (suc m) x l h = go (from_step k (suc n) m (x / 2) (omega arith)) (parity x)
  where
    t : ℕ
    t = count_trailing_zeros m (x / 2)

    go : (0 < x / 2 % 2 ^ k → named_from k (suc n) (x / 2) ≡ (suc n + t) ∷ named_from k (suc n) (x / 2 - 2 ^ t)) → Parity x
        → named_from (suc k) n x ≡ (n + count_trailing_zeros (suc m) x) ∷ named_from (suc k) n (x - 2 ^ count_trailing_zeros (suc m) x)
    go rest (inl e) =
        let head : n + suc t ≡ suc n + t = omega arith in
        let half : (x - 2 ^ suc t) / 2 ≡ x / 2 - 2 ^ t = omega (arith, pow-suc 2 t) in
        rw (trailing_even m x e, from-even k n x e, from-even k n (x - 2 ^ suc t) (omega (arith, pow-suc 2 t)), head, half)
        (rest (omega (arith, mod-suc x k)))
    go rest (inr e) =
        let half : (x - 1) / 2 ≡ x / 2 = omega arith in
        rw (trailing_odd m x e, from-odd k n x e, from-even k n (x - 1) (omega arith), add-zero, half)

-- the lowest register is at the trailing zeros
pub named_step : (list : ℕ) → 0 < list % 65536
    → named list ≡ count_trailing_zeros 32 list ∷ named (list - 2 ^ count_trailing_zeros 32 list)
unfolding named
named_step list h = rw zero-add at (from_step 16 0 32 list (omega arith) h)

-- ---- a list is the sum of its registers' bits

from_list : (k n x : ℕ) → list_of (named_from k n x) ≡ 2 ^ n * (x % 2 ^ k)
unfolding named_from list_of
from_list zero n x = let e : x % 1 ≡ 0 = omega arith in rw e (sym (mul-zero (2 ^ n)))
from_list (suc k) n x = go (from_list k (suc n) (x / 2)) (parity x)
  where
    half : ℕ
    half = x / 2 % 2 ^ k

    double : 2 ^ suc n * half ≡ 2 ^ n * (half * 2)
    double = rw (pow-suc 2 n) (mul_assoc (2 ^ n) 2 half ∙ ap (λ (m : ℕ). 2 ^ n * m) (mul_comm 2 half))

    go : list_of (named_from k (suc n) (x / 2)) ≡ 2 ^ suc n * half → Parity x
        → list_of (named_from (suc k) n x) ≡ 2 ^ n * (x % 2 ^ suc k)
    go rest (inl e) =
        let even : x % 2 ^ suc k ≡ half * 2 = omega (arith, mod-suc x k) in
        rw (from-even k n x e, even, rest, double)
    go rest (inr e) =
        let odd : x % 2 ^ suc k ≡ suc (half * 2) = omega (arith, mod-suc x k) in
        rw (from-odd k n x e, odd, rest, double) (add_comm (2 ^ n) (2 ^ n * (half * 2)) ∙ sym (mul-suc (2 ^ n) (half * 2)))

pub named-list : (list : ℕ) → list_of (named list) ≡ list % 65536
unfolding named
named-list list = from_list 16 0 list ∙ one-mul (list % 65536)

-- the list of what a list of 16 bits names is itself
pub list-of : (r : ℕ) (xs : List ℕ) → r < 65536 → named r ≡ xs → r ≡ list_of xs
list-of r xs h e = sym (mod-eq_of_lt h) ∙ sym (named-list r) ∙ ap list_of e

pub list-lt : (r : ℕ) (xs : List ℕ) → named r ≡ xs → r ≡ list_of xs → r < 65536
list-lt r xs e l = omega (arith, l ∙ ap list_of (sym e) ∙ named-list r)

-- ---- they rise

-- strictly rising, from n on and below m
abbrev pub Rising : ℕ → ℕ → List ℕ → Type 0
Rising m n [] = Unit {0}
Rising m n (x ∷ xs) = (n ≤ x) × (x < m) × Rising m (suc x) xs

rising_down : (m n : ℕ) (xs : List ℕ) → Rising m (suc n) xs → Rising m n xs
rising_down m n [] r = tt
rising_down m n (x ∷ xs) r = (omega arith, r.1, r.2)

pub from-rising : (k n x : ℕ) → Rising (n + k) n (named_from k n x)
unfolding named_from
from-rising zero n x = tt
from-rising (suc k) n x = go (from-rising k (suc n) (x / 2)) (parity x)
  where
    go : Rising (suc n + k) (suc n) (named_from k (suc n) (x / 2)) → Parity x → Rising (n + suc k) n (named_from (suc k) n x)
    go rest p =
        let e : suc n + k ≡ n + suc k = omega arith in
        let more : Rising (n + suc k) (suc n) (named_from k (suc n) (x / 2)) = subst (λ m. Rising m (suc n) (named_from k (suc n) (x / 2))) e rest in
        ⊎_elim
        (λ (even : x % 2 ≡ 0). rw (from-even k n x even) (rising_down (n + suc k) n (named_from k (suc n) (x / 2)) more))
        (λ (odd : x % 2 ≡ 1). rw (from-odd k n x odd) (omega arith, omega arith, more))
        p

pub named-rising : (list : ℕ) → Rising 16 0 (named list)
unfolding named
named-rising list = from-rising 16 0 list

-- each is at most 15, and at most 14 where another follows
pub rising-lt : (m n x : ℕ) (xs : List ℕ) → Rising m n (x ∷ xs) → x < m
rising-lt m n x xs r = r.1

pub rising-before : (m n x y : ℕ) (ys : List ℕ) → Rising m n (x ∷ (y ∷ ys)) → suc x < m
rising-before m n x y ys r = omega (arith, r.2.0, r.2.1)

-- ---- the form of the code: a bit above the registers, so that an empty list needs no test

abbrev pub above : ℕ → ℕ
above list = list % 65536 + 65536

-- the register that the code takes for the lowest: 16 where none is named
abbrev pub lowest : ℕ → ℕ
lowest list = count_trailing_zeros 32 (above list)

above-names : (list : ℕ) → named (above list) ≡ named list
above-names list =
    let same : above list % 65536 ≡ list % 65536 = omega arith in
    sym (named-mod (above list)) ∙ rw same (named-mod list)

pub named_none : named 0 ≡ []
unfolding named named_from bit field
named_none = refl

none : (list : ℕ) → list % 65536 ≡ 0 → named list ≡ []
none list e = sym (named-mod list) ∙ rw e named_none

top : count_trailing_zeros 32 65536 ≡ 16
unfolding count_trailing_zeros
top = refl

pub named-lowest : (list : ℕ) → lowest list ≡ get_or (named list) 0 16
named-lowest list = ⊎_elim
    (λ (e : list % 65536 ≡ 0). rw (none list e, e) top)
    (λ (h : 0 < list % 65536). rw (← above-names list, named_step (above list) (omega arith)))
    (eq-zero-or-pos (list % 65536))

pub named-rest : (list : ℕ) → named ((above list - 2 ^ lowest list) % 65536) ≡ tail (named list)
named-rest list = named-mod (above list - 2 ^ lowest list) ∙ ⊎_elim
    (λ (e : list % 65536 ≡ 0). rw (none list e, e, top) named_none)
    (λ (h : 0 < list % 65536). rw (← above-names list, named_step (above list) (omega arith)))
    (eq-zero-or-pos (list % 65536))

head-le : (n : ℕ) (xs : List ℕ) → Rising 16 n xs → get_or xs 0 16 ≤ 16
head-le n [] r = omega arith
head-le n (x ∷ xs) r = omega (arith, r.1)

pub lowest-le : (list : ℕ) → lowest list ≤ 16
lowest-le list = rw (named-lowest list) (head-le 0 (named list) (named-rising list))

-- ---- a list without its first

pub drop-tail : (k : ℕ) (xs : List ℕ) → 0 < k → drop (k - 1) (tail xs) ≡ drop k xs
drop-tail zero xs h = absurd (omega arith)
drop-tail (suc k) xs h = let e : suc k - 1 ≡ k = omega arith in rw e (go xs)
  where
    go : (xs : List ℕ) → drop k (tail xs) ≡ drop (suc k) xs
    go [] = drop-nil k
    go (x ∷ xs) = refl

-- where the search for the lowest finds none, none is named
pub none-named : (list : ℕ) → get_or (named list) 0 16 ≡ 16 → named list ≡ []
none-named list e = go (named list) (named-rising list) e
  where
    go : (xs : List ℕ) → Rising 16 0 xs → get_or xs 0 16 ≡ 16 → xs ≡ []
    go [] r e = refl
    go (x ∷ xs) r e = let h = rising-lt 16 0 x xs r in let f : ⊥ = omega (arith, h, e) in absurd f

-- where it finds one, that is the first
pub some-named : (list : ℕ) → (lowest list ≡ 16 → ⊥) → named list ≡ lowest list ∷ tail (named list)
some-named list h = go (named list) (named-lowest list)
  where
    go : (xs : List ℕ) → lowest list ≡ get_or xs 0 16 → xs ≡ lowest list ∷ tail xs
    go [] e = absurd (h e)
    go (x ∷ xs) e = rw e refl
