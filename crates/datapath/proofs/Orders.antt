-- C, Z, N and V after a difference or a sum, by the order of the two words and of their signed values.
-- Assumes nothing.
use Rattle.std.proofs.Common.{◌≡◌, ℕ, ◌+◌, ◌-◌, ◌*◌, ◌/◌, ◌%◌, ◌^◌, ◌<◌, ◌≤◌, Bool, true, false, not, ◌&&◌, eqb, ltb, leb, ◌≢◌, ℤ, pos, ◌+ℤ◌, ◌-ℤ◌, sym, refl, ◌∙◌, add-zero, arith, ltb-false, ltb-true, eq-eqb, ne_eqb, eqb-true}
use lib.Signed.{le_z, lt_z}
use borrow.Author.Tests.{eqb-false}
use Rattle.bits.specs.Choice.{same}
use Rattle.bits.specs.Bits.{bit, field, num}
use Rattle.bits.proofs.Fields.{num-bit}
use Rattle.datapath.specs.Alu.{sum, difference}
use Rattle.datapath.specs.Signed.{signed_value, in_range}
use Rattle.datapath.specs.Overflow.{Overflow}
use Rattle.datapath.proofs.Flags.{num-le}
use Rattle.datapath.proofs.Integers.{Is, is_sum, is-difference, at_most, not-at-most, not_le_z, inside, below, above, raised, signed_is}

-- a word w, its sign s, and its raised signed value x, with no remainder in it
record Signed (w x : ℕ) (s : Bool) : Type 0 where
  low : 2 ^ 31 * num s ≤ w
  high : w < 2 ^ 31 + 2 ^ 31 * num s
  moved : x + 2 ^ 32 * num s ≡ w + 2 ^ 31

signed : (w : ℕ) → w < 2 ^ 32 → Signed w (raised w) (bit w 31)
unfolding field
signed w h = go (bit w 31) (num-bit w 31)
  where
    go : (s : Bool) → num s ≡ w / 2 ^ 31 % 2 → Signed w (raised w) s
    go true e = omega arith
    go false e = omega arith

-- ---- a comparison: a - b, and nothing more taken

-- what it leaves
abbrev left : ℕ → ℕ → ℕ
left a b = (a + 2 ^ 32 - (b + 0)) % 2 ^ 32

module _ (a b : ℕ) (ha : a < 2 ^ 32) (hb : b < 2 ^ 32) where
  -- C: b is at most a
  pub compared-carry : (difference a b true).carry ≡ leb b a
  unfolding difference
  compared-carry = rw add-zero

  -- Z: they are equal
  pub compared-zero : eqb (difference a b true).value 0 ≡ eqb a b
  unfolding difference
  compared-zero = go (eqb a b) refl
    where
      go : (t : Bool) → eqb a b ≡ t → eqb (left a b) 0 ≡ t
      go true e = let q : a ≡ b = eqb-true a b e in eq-eqb (left a b) 0 (omega arith)
      go false e = let q : a ≢ b = eqb-false a b e in ne_eqb (left a b) 0 (λ (z : left a b ≡ 0). q (omega arith))

module _ (a b r q x y z : ℕ) (u v : ℤ) (iu : Is u x (2 ^ 31)) (iv : Is v y (2 ^ 31)) where
  yes : y ≤ x → true ≡ le_z v u
  yes h = sym (at_most v u y (2 ^ 31) x (2 ^ 31) iv iu (omega arith))

  no : x < y → false ≡ le_z v u
  no h = sym (not-at-most v u y (2 ^ 31) x (2 ^ 31) iv iu (omega arith))

  signed-order : (sa sb sr : Bool) → Signed a x sa → Signed b y sb → Signed r z sr → r + b ≡ a + 2 ^ 32 * q
      → same sr (not (same sa sb) && not (same sr sa)) ≡ le_z v u
  signed-order true true true ka kb kr e = no (omega arith)
  signed-order true true false ka kb kr e = yes (omega arith)
  signed-order true false true ka kb kr e = no (omega arith)
  signed-order true false false ka kb kr e = no (omega arith)
  signed-order false true true ka kb kr e = yes (omega arith)
  signed-order false true false ka kb kr e = yes (omega arith)
  signed-order false false true ka kb kr e = no (omega arith)
  signed-order false false false ka kb kr e = yes (omega arith)

-- N as V: the signed b is at most the signed a
pub compared-signed : (a b : ℕ) → a < 2 ^ 32 → b < 2 ^ 32
    → same (bit (difference a b true).value 31) (difference a b true).overflow ≡ le_z (signed_value b) (signed_value a)
unfolding difference
compared-signed a b ha hb =
    signed-order a b (left a b) ((left a b + b) / 2 ^ 32) _ _ _ (signed_value a) (signed_value b) (signed_is a ha) (signed_is b hb) _ _ _
    (signed a ha)
    (signed b hb)
    (signed (left a b) (omega arith))
    (omega arith)

-- unequal and at most: below
pub signed_below : (a b : ℕ) → a < 2 ^ 32 → b < 2 ^ 32
    → (not (eqb a b) && le_z (signed_value b) (signed_value a)) ≡ lt_z (signed_value b) (signed_value a)
signed_below a b ha hb = go (eqb a b) (ltb (raised b) (raised a)) refl refl ∙ not_le_z (signed_value b) (signed_value a)
  where
    most : (a b : ℕ) → a < 2 ^ 32 → b < 2 ^ 32 → raised a ≤ raised b → le_z (signed_value a) (signed_value b) ≡ true
    most a b ha hb h = at_most (signed_value a) (signed_value b) _ _ _ _ (signed_is a ha) (signed_is b hb) (omega arith)

    over : (a b : ℕ) → a < 2 ^ 32 → b < 2 ^ 32 → raised b < raised a → le_z (signed_value a) (signed_value b) ≡ false
    over a b ha hb h = not-at-most (signed_value a) (signed_value b) _ _ _ _ (signed_is a ha) (signed_is b hb) (omega arith)

    go : (e t : Bool) → eqb a b ≡ e → ltb (raised b) (raised a) ≡ t
        → (not e && le_z (signed_value b) (signed_value a)) ≡ not (le_z (signed_value a) (signed_value b))
    go true t e _ = let q : a ≡ b = eqb-true a b e in rw (most a b ha hb (omega arith))
    go false true e t =
        let l : raised b < raised a = ltb-true _ _ t in
        rw (most b a hb ha (omega arith), over a b ha hb l)
    go false false e t =
        let q : a ≢ b = eqb-false a b e in
        let l : raised a ≤ raised b = ltb-false _ _ t in
        let k : raised a ≢ raised b = λ (r : raised a ≡ raised b). q (omega arith) in
        rw (over b a hb ha (omega arith), most a b ha hb l)

-- N: the signed value is below 0
pub signed-negative : (w : ℕ) → w < 2 ^ 32 → bit w 31 ≡ lt_z (signed_value w) (pos 0)
unfolding field
signed-negative w h = go (bit w 31) (num-bit w 31) ∙ not_le_z (signed_value w) (pos 0)
  where
    go : (t : Bool) → num t ≡ w / 2 ^ 31 % 2 → t ≡ not (le_z (pos 0) (signed_value w))
    go true e = rw (not-at-most (pos 0) (signed_value w) 0 0 _ _ refl (signed_is w h) (omega arith))
    go false e = rw (at_most (pos 0) (signed_value w) 0 0 _ _ refl (signed_is w h) (omega arith))

-- ---- V: the signed result w is out of range

module _ (a b r q x y z k : ℕ) (w : ℤ) (l : k ≤ 1) where
  sum-range : Is w (x + y + k) (2 ^ 32) → (sa sb sr : Bool) → Signed a x sa → Signed b y sb → Signed r z sr
      → r + 2 ^ 32 * q ≡ a + b + k → (same sa sb && not (same sr sa)) ≡ not (in_range w)
  sum-range i true true true ka kb kr e = inside w _ _ i (omega arith) (omega arith)
  sum-range i true true false ka kb kr e = below w _ _ i (omega arith)
  sum-range i true false sr ka kb kr e = inside w _ _ i (omega arith) (omega arith)
  sum-range i false true sr ka kb kr e = inside w _ _ i (omega arith) (omega arith)
  sum-range i false false true ka kb kr e = above w _ _ i (omega arith)
  sum-range i false false false ka kb kr e = inside w _ _ i (omega arith) (omega arith)

  difference-range : Is w (x + 2 ^ 31 + 0) (2 ^ 31 + y + k) → (sa sb sr : Bool) → Signed a x sa → Signed b y sb → Signed r z sr
      → r + (b + k) ≡ a + 2 ^ 32 * q → (not (same sa sb) && not (same sr sa)) ≡ not (in_range w)
  difference-range i true true sr ka kb kr e = inside w _ _ i (omega arith) (omega arith)
  difference-range i true false true ka kb kr e = inside w _ _ i (omega arith) (omega arith)
  difference-range i true false false ka kb kr e = below w _ _ i (omega arith)
  difference-range i false true true ka kb kr e = above w _ _ i (omega arith)
  difference-range i false true false ka kb kr e = inside w _ _ i (omega arith) (omega arith)
  difference-range i false false sr ka kb kr e = inside w _ _ i (omega arith) (omega arith)

pub overflow : Overflow
unfolding sum difference
overflow = record {
  of_sum = λ a b c ha hb.
      let x = signed_value a in
      let y = signed_value b in
      let k = num c in
      let r = (a + b + k) % 2 ^ 32 in
      sum-range a b r ((a + b + k) / 2 ^ 32) _ _ _ k (x +ℤ y +ℤ pos k) (num-le c)
      (is_sum (x +ℤ y) (pos k) _ _ k 0 (is_sum x y _ _ _ _ (signed_is a ha) (signed_is b hb)) (add-zero k)) _ _ _
      (signed a ha) (signed b hb) (signed r (omega arith)) (omega arith);
  of_difference = λ a b c ha hb.
      let x = signed_value a in
      let y = signed_value b in
      let k = num (not c) in
      let l : k ≤ 1 = num-le (not c) in
      let r = (a + 2 ^ 32 - (b + k)) % 2 ^ 32 in
      difference-range a b r ((r + (b + k)) / 2 ^ 32) _ _ _ k (x -ℤ y -ℤ pos k) l
      (is-difference (x -ℤ y) (pos k) _ _ k 0 (is-difference x y _ _ _ _ (signed_is a ha) (signed_is b hb)) (add-zero k)) _ _ _
      (signed a ha) (signed b hb) (signed r (omega arith)) (omega arith);
}
