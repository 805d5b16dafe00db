-- A word moved right and filled with its sign stands for the signed value divided, rounded down.
-- Assumes nothing.
use Rattle.std.proofs.Common.{◌≡◌, ℕ, suc, ◌+◌, ◌-◌, ◌*◌, ◌/◌, ◌%◌, ◌^◌, ◌<◌, ◌≤◌, Bool, true, false, ℤ, pos, negsuc, sym, ap, ◌∙◌, mod-lt, arith, w32, to_z, of_z, pow_pos, pow-add, le-ltb, lt-ltb}
use native.Mathlib.Nat.{div-eq_of_lt}
use lib.Pow.{high, split, shl-shr, shr_le, shr_mono}
use lib.Signed.{shr_z}
use Rattle.std.proofs.lemmas.Int.{ints, of_z-to_z}
use Rattle.bits.specs.Bits.{bit, field, num}
use Rattle.bits.proofs.Fields.{num-bit, word_lt}
use Rattle.datapath.specs.Shifter.{signed}
use Rattle.datapath.specs.Signed.{signed_value}
use Rattle.datapath.proofs.Moved.{room-le, room-even, shr-word-lt, signed_lt}

clear : (w : ℕ) → w < 2 ^ 31 → signed_value w ≡ pos w
clear w h = rw (lt-ltb w (2 ^ 31) h)

set : (w : ℕ) → 2 ^ 31 ≤ w → w < 2 ^ 32 → signed_value w ≡ negsuc (2 ^ 32 - suc w)
set w l h = rw (le-ltb w (2 ^ 31) l, lt-ltb w (2 ^ 32) h)

-- as the library reads a word
value-to_z : (w : ℕ) → w < 2 ^ 32 → signed_value w ≡ to_z w32 w
value-to_z w h = grind (arith, ints)

-- v = q m + r and what it lacks to m p, both divided by m
lacks : (v q r m p d : ℕ) → q * m + r ≡ v → r < m → d + suc q ≡ p → m * p ≡ 2 ^ 32 → 2 ^ 32 - suc v ≡ d * m + (m - suc r)
lacks v q r m p d e l f w = omega (arith, ap (λ (k : ℕ). k * m) f)

module _ (v n : ℕ) (h : v < 2 ^ 32) where
  module _ (l : n < 32) where
    q : v / 2 ^ n < 2 ^ (32 - n)
    q = shr-word-lt v n h l

    whole : 2 ^ n * 2 ^ (32 - n) ≡ 2 ^ 32
    whole = let e : n + (32 - n) ≡ 32 = omega arith in sym (pow-add 2 n (32 - n)) ∙ ap (λ (k : ℕ). 2 ^ k) e

    -- the top of what is left is the sign
    top : 2 ^ 31 ≤ v → 2 ^ (32 - n) ≤ 2 * (v / 2 ^ n)
    top s =
        let e : 31 - n + n ≡ 31 = omega arith in
        let half : 2 ^ 31 / 2 ^ n ≡ 2 ^ (31 - n) =
        ap (λ (k : ℕ). 2 ^ k / 2 ^ n) (sym e) ∙ ap (λ (k : ℕ). k / 2 ^ n) (pow-add 2 (31 - n) n) ∙ shl-shr (2 ^ (31 - n)) n in
        omega (arith, shr_mono n s, room-even n l)

    pub below-32 : signed_value (signed v n) ≡ shr_z (signed_value v) (2 ^ n)
    unfolding signed field
    below-32 = go (bit v 31) (num-bit v 31)
      where
        go : (t : Bool) → num t ≡ v / 2 ^ 31 % 2 → signed_value (v / 2 ^ n + num t * (2 ^ 32 - 2 ^ (32 - n))) ≡ shr_z (signed_value v) (2 ^ n)
        go true e =
            let s : 2 ^ 31 ≤ v = omega arith in
            let w = v / 2 ^ n + 1 * (2 ^ 32 - 2 ^ (32 - n)) in
            let d = 2 ^ (32 - n) - suc (v / 2 ^ n) in
            let r = v % 2 ^ n in
            let f : 2 ^ 32 - suc v ≡ d * 2 ^ n + (2 ^ n - suc r) =
            lacks v (v / 2 ^ n) r (2 ^ n) (2 ^ (32 - n)) d (split v n) (mod-lt v (pow_pos n)) (omega (arith, q)) whole in
            let k : 2 ^ n - suc r < 2 ^ n = omega (arith, pow_pos n) in
            let p : 2 ^ 32 - suc w ≡ (2 ^ 32 - suc v) / 2 ^ n = omega (arith, q, room-le n) ∙ sym (ap (λ (x : ℕ). x / 2 ^ n) f ∙ high d n k) in
            set w (omega (arith, top s, room-le n)) (omega (arith, q, room-le n)) ∙ ap negsuc p ∙ sym (ap (λ (z : ℤ). shr_z z (2 ^ n)) (set v s h))
        go false e =
            let s : v < 2 ^ 31 = omega arith in
            let w : v / 2 ^ n + 0 * (2 ^ 32 - 2 ^ (32 - n)) ≡ v / 2 ^ n = omega arith in
            rw (w, clear v s) (clear (v / 2 ^ n) (omega (arith, shr_le v n)))

  -- from 32 on nothing but sign is left: -1 or 0
  pub from-32 : 32 ≤ n → signed_value (signed v 32) ≡ shr_z (signed_value v) (2 ^ n)
  unfolding signed field
  from-32 l = go (bit v 31) (num-bit v 31)
    where
      none : v / 2 ^ 32 ≡ 0
      none = omega arith

      go : (t : Bool) → num t ≡ v / 2 ^ 31 % 2 → signed_value (v / 2 ^ 32 + num t * (2 ^ 32 - 1)) ≡ shr_z (signed_value v) (2 ^ n)
      go true e =
          let s : 2 ^ 31 ≤ v = omega arith in
          let k : 2 ^ 32 - suc v < 2 ^ n = word_lt _ n (omega arith) l in
          rw (none, set v s h, div-eq_of_lt k)
      go false e =
          let s : v < 2 ^ 31 = omega arith in
          rw (none, clear v s, div-eq_of_lt (word_lt v n h l))

-- moved right as the library's signed number
pub moved_right : (v n : ℕ) → v < 2 ^ 32 → n < 32 → of_z w32 (shr_z (to_z w32 v) (2 ^ n)) ≡ signed v n
moved_right v n h l =
    let s : signed v n < 2 ^ 32 = signed_lt v n h l in
    rw (← (value-to_z v h), ← (below-32 v n h l), value-to_z (signed v n) s) (of_z-to_z w32 (signed v n) s)
