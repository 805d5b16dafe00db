-- Of a word turned right by n places, each bit is the one n places above it, around the 32.
-- Assumes nothing.
use Rattle.std.proofs.Common.{◌≡◌, ℕ, ◌+◌, ◌-◌, ◌*◌, ◌/◌, ◌%◌, ◌^◌, ◌<◌, ◌≤◌, Bool, true, false, eqb, ltb, refl, ap, add_comm, arith, pow_pos, pow-add, shr-shr, ltb-false, ltb-true}
use native.Mathlib.Nat.{add-mul-div_right}
use lib.Pow as Pow
use lib.Pow.{high, mod-mod-pow}
use Rattle.bits.specs.Bits.{bit, field}
use Rattle.datapath.proofs.Moved.{turned, shr-word-lt}

-- bit j comes from above, where k is more than j
from-above : (v n i j k m : ℕ) → k ≡ i + 1 + j → m ≡ n + j → turned v n k / 2 ^ j % 2 ≡ v / 2 ^ m % 2
from-above v n i j k m d f =
    let lo = v % 2 ^ n in
    let e : lo * 2 ^ (i + 1 + j) ≡ lo * 2 ^ i * 2 * 2 ^ j = rw (pow-add 2 (i + 1) j, pow-add 2 i 1) (omega arith) in
    rw (d, f, e, add-mul-div_right (v / 2 ^ n) (lo * 2 ^ i * 2) (pow_pos j), shr-shr v n j) (omega arith)

-- bit k + p comes around, where n is more than p
from-around : (v n i j k p m : ℕ) → n ≡ i + 1 + p → j ≡ k + p → m ≡ p → v / 2 ^ n < 2 ^ k → turned v n k / 2 ^ j % 2 ≡ v / 2 ^ m % 2
from-around v n i j k p m d e f h =
    rw (e, f, add_comm (v / 2 ^ n) (v % 2 ^ n * 2 ^ k), ← (shr-shr (v % 2 ^ n * 2 ^ k + v / 2 ^ n) k p), high (v % 2 ^ n) k h, d, Pow.field v (i + 1) p)
    (mod-mod-pow (v / 2 ^ p) i 1)

pub turned_bit : (v n j : ℕ) → v < 2 ^ 32 → n < 32 → j < 32 → bit (turned v n (32 - n)) j ≡ bit v ((n + j) % 32)
unfolding bit field
turned_bit v n j h l k = ap (λ (x : ℕ). eqb x 1) (go (ltb (n + j) 32) refl)
  where
    go : (t : Bool) → ltb (n + j) 32 ≡ t → turned v n (32 - n) / 2 ^ j % 2 ≡ v / 2 ^ ((n + j) % 32) % 2
    go true e =
        let less : n + j < 32 = ltb-true (n + j) 32 e in
        from-above v n (31 - (n + j)) j _ _ (omega arith) (omega arith)
    go false e =
        let more : 32 ≤ n + j = ltb-false (n + j) 32 e in
        let p = n + j - 32 in
        from-around v n (n - 1 - p) j _ p _ (omega arith) (omega arith) (omega arith) (shr-word-lt v n h l)
