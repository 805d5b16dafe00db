-- The laws of words that are moved and turned.
-- Assumes nothing.
use Rattle.std.proofs.Common.{◌≡◌, ℕ, zero, suc, ◌+◌, ◌-◌, ◌*◌, ◌/◌, ◌%◌, ◌^◌, ◌<◌, ◌≤◌, Bool, true, false, sym, ap, ◌∙◌, subst, add-zero, mod-lt, add_comm, arith, pow_pos, pow_mono, pow-add, shr_lt}
use native.Mathlib.Nat.{mul-mod_left}
use lib.Arith.{digits_lt}
use lib.Bits.{bit_or, or_self, or_shifted_r}
use lib.Pow.{shr_le, shl-shr, mod-pow-add}
use Rattle.bits.specs.Bits.{bit, field, num}
use Rattle.bits.proofs.Fields.{num-bit}
use Rattle.datapath.specs.Shifter.{signed}

-- a word of j + k bits moved right by j places
left_lt : (v j k : ℕ) → v < 2 ^ (j + k) → v / 2 ^ j < 2 ^ k
left_lt v j k h = shr_lt k j (rw add_comm h)

-- v turned right by j places, around the j + k
abbrev pub turned : ℕ → ℕ → ℕ → ℕ
turned v j k = v / 2 ^ j + v % 2 ^ j * 2 ^ k

turned_or : (v j k : ℕ) → v < 2 ^ (j + k) → bit_or (v / 2 ^ j) (v * 2 ^ k % 2 ^ (j + k)) ≡ turned v j k
turned_or v j k h =
    let moved : v * 2 ^ k % 2 ^ (j + k) ≡ v % 2 ^ j * 2 ^ k = rw (mod-pow-add, shl-shr, mul-mod_left) (add-zero _) in
    rw (moved, or_shifted_r (v % 2 ^ j) k (v / 2 ^ j) (left_lt v j k h)) (add_comm _ _)

turned_lt : (v j k : ℕ) → v < 2 ^ (j + k) → turned v j k < 2 ^ (j + k)
turned_lt v j k h = rw (pow-add, add_comm) (digits_lt (mod-lt v (pow_pos j)) (left_lt v j k h))

-- what holds of n + (32 - n) bits holds of 32
at-32 : (P : ℕ → Type 0) (n : ℕ) → n < 32 → P (n + (32 - n)) → P 32
at-32 P n l = let e : n + (32 - n) ≡ 32 = omega arith in subst P e

-- the bits that n places leave room for
pub room-le : (n : ℕ) → 2 ^ (32 - n) ≤ 2 ^ 32
room-le n = let k : 32 - n ≤ 32 = omega arith in pow_mono k

pub room-even : (n : ℕ) → n < 32 → 2 * 2 ^ (31 - n) ≡ 2 ^ (32 - n)
room-even n l = let e : 1 + (31 - n) ≡ 32 - n = omega arith in sym (pow-add 2 1 (31 - n)) ∙ ap (λ (k : ℕ). 2 ^ k) e

pub shr-word-lt : (v n : ℕ) → v < 2 ^ 32 → n < 32 → v / 2 ^ n < 2 ^ (32 - n)
shr-word-lt v n h l = at-32 (λ (w : ℕ). v < 2 ^ w → v / 2 ^ n < 2 ^ (32 - n)) n l (left_lt v n (32 - n)) h

pub turned-word-lt : (v n : ℕ) → v < 2 ^ 32 → n < 32 → turned v n (32 - n) < 2 ^ 32
turned-word-lt v n h l = at-32 (λ (w : ℕ). v < 2 ^ w → turned v n (32 - n) < 2 ^ w) n l (turned_lt v n (32 - n)) h

-- turned as the code has it
pub turned_word_or : (v n : ℕ) → v < 2 ^ 32 → n < 32 → bit_or (v / 2 ^ n) (v * 2 ^ ((32 - n) % 32) % 2 ^ 32) ≡ turned v n (32 - n)
turned_word_or v zero h l = let e : v * 1 % 2 ^ 32 ≡ v / 1 = omega arith in rw (e, or_self) (omega arith)
turned_word_or v (suc n) h l =
    let e : (32 - suc n) % 32 ≡ 32 - suc n = omega arith in
    rw e
    (at-32 (λ (w : ℕ). v < 2 ^ w → bit_or (v / 2 ^ suc n) (v * 2 ^ (32 - suc n) % 2 ^ w) ≡ turned v (suc n) (32 - suc n)) (suc n) l (turned_or v (suc n) (32 - suc n)) h)

-- 31 places leave nothing but sign
pub signed_whole : (v : ℕ) → v < 2 ^ 32 → signed v 31 ≡ signed v 32
unfolding signed field
signed_whole v h = omega (arith, num-bit v 31)

-- fewer leave a word
pub signed_lt : (v n : ℕ) → v < 2 ^ 32 → n < 32 → signed v n < 2 ^ 32
unfolding signed
signed_lt v n h l = go (bit v 31)
  where
    go : (t : Bool) → v / 2 ^ n + num t * (2 ^ 32 - 2 ^ (32 - n)) < 2 ^ 32
    go true = omega (arith, shr-word-lt v n h l, room-le n)
    go false = omega (arith, shr_le v n)
