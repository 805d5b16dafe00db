-- The shifts by arithmetic and by bits.
-- Assumes nothing.
use Rattle.std.proofs.Common.{◌≡◌, ℕ, zero, suc, ◌+◌, ◌-◌, ◌*◌, ◌/◌, ◌%◌, ◌^◌, ◌<◌, ◌≤◌, Bool, true, false, eqb, ltb, leb, sym, refl, ap, ◌∙◌, add-zero, mod-lt, mul_assoc, arith, lit<, pow_pos, pow-add, le-ltb, lt-ltb, ne_eqb, leb-false, leb-true}
use native.Mathlib.Nat.{div-eq_of_lt, mod-mod, mod-add-mod, mul-mod_left, mul-div-mul_right}
use lib.Pow as Pow
use lib.Pow.{shr_le}
use lib.Signed.{shr_z}
use Rattle.bits.specs.Choice.{pick}
use Rattle.bits.specs.Bits.{bit, field, num}
use Rattle.bits.proofs.Fields.{bit-of, word_lt}
use Rattle.datapath.specs.declared.Shifted.{Shifted}
use Rattle.datapath.specs.Shifter.{shifted, rotated, signed, lsl, lsr, asr, ror, shift, constant}
use Rattle.datapath.specs.Signed.{signed_value}
use Rattle.datapath.specs.Shifts.{after, Shifts}
use Rattle.datapath.proofs.Moved.{room-even, signed_whole, signed_lt, turned-word-lt}
use Rattle.datapath.proofs.Rotations.{turned_bit}
use Rattle.datapath.proofs.Floors.{below-32, from-32}

-- what holds of both choices by an order, each where it is made
chosen : {A : Type 0} (P : A → Type 0) (m n : ℕ) {x y : A} → (m ≤ n → P x) → (n < m → P y) → P (pick (leb m n) x y)
chosen P m n {x} {y} f g = go (leb m n) refl
  where
    go : (t : Bool) → leb m n ≡ t → P (pick t x y)
    go true e = f (leb-true m n e)
    go false e = g (leb-false m n e)

-- ---- LSL

-- above 32 places all is moved out
left_out : (v n : ℕ) → 32 ≤ n → v * 2 ^ n % 2 ^ 32 ≡ 0
left_out v n h =
    let e : n - 32 + 32 ≡ n = omega arith in
    let f : v * 2 ^ n ≡ v * 2 ^ (n - 32) * 2 ^ 32 =
    ap (λ (k : ℕ). v * 2 ^ k) (sym e) ∙ ap (λ (k : ℕ). v * k) (pow-add 2 (n - 32) 32) ∙ sym (mul_assoc v (2 ^ (n - 32)) (2 ^ 32)) in
    ap (λ (k : ℕ). k % 2 ^ 32) f ∙ mul-mod_left (v * 2 ^ (n - 32)) (2 ^ 32)

lsl_multiplies : (v n : ℕ) → (lsl v n).value ≡ v * 2 ^ n % 2 ^ 32
unfolding lsl
lsl_multiplies v n = chosen (λ (s : Shifted). s.value ≡ v * 2 ^ n % 2 ^ 32) n 32 (λ l. refl) (λ l. sym (left_out v n (omega arith)))

after-lsl : (v n : ℕ) → v < 2 ^ 32 → after lsl v n ≡ v * 2 ^ n % 2 ^ 32
after-lsl v zero h = omega arith
after-lsl v (suc n) h = lsl_multiplies v (suc n)

-- bit 31 of a word moved left, at most 31 places
left-bit : (v n : ℕ) → n < 32 → bit v (32 - suc n) ≡ bit (v * 2 ^ n % 2 ^ 32) 31
unfolding bit field
left-bit v n h =
    let e : 32 - suc n + n ≡ 31 = omega arith in
    let f : 2 ^ 31 ≡ 2 ^ (32 - suc n) * 2 ^ n = ap (λ (k : ℕ). 2 ^ k) (sym e) ∙ pow-add 2 (32 - suc n) n in
    let g : v * 2 ^ n / 2 ^ 31 ≡ v / 2 ^ (32 - suc n) = ap (λ (k : ℕ). v * 2 ^ n / k) f ∙ mul-div-mul_right v (2 ^ (32 - suc n)) (pow_pos n) in
    rw (Pow.field (v * 2 ^ n) 1 31, g, mod-mod)

lsl_carry : (v n : ℕ) → v < 2 ^ 32 → (lsl v (suc n)).carry ≡ bit (after lsl v n) 31
unfolding lsl bit field
lsl_carry v n h =
    rw (after-lsl v n h)
    (chosen (λ (s : Shifted). s.carry ≡ bit (v * 2 ^ n % 2 ^ 32) 31) (suc n) 32 (λ l. left-bit v n (omega arith)) (λ l. rw (left_out v n (omega arith))))

-- ---- LSR

lsr_divides : (v n : ℕ) → v < 2 ^ 32 → (lsr v n).value ≡ v / 2 ^ n
unfolding lsr
lsr_divides v n h =
    chosen (λ (s : Shifted). s.value ≡ v / 2 ^ n) n 32 (λ l. refl) (λ l. sym (div-eq_of_lt (word_lt v n h (omega arith))))

after-lsr : (v n : ℕ) → v < 2 ^ 32 → after lsr v n ≡ v / 2 ^ n
after-lsr v zero h = omega arith
after-lsr v (suc n) h = lsr_divides v (suc n) h

-- bit n is bit 0 of what n places leave
right-bit : (v n : ℕ) → bit v (suc n - 1) ≡ bit (v / 2 ^ n) 0
unfolding bit field
right-bit v n =
    let e : suc n - 1 ≡ n = omega arith in
    let f : v / 2 ^ n / 1 ≡ v / 2 ^ n = omega arith in
    rw (e, f)

lsr_carry : (v n : ℕ) → v < 2 ^ 32 → (lsr v (suc n)).carry ≡ bit (after lsr v n) 0
unfolding lsr bit field
lsr_carry v n h =
    rw (after-lsr v n h)
    (chosen (λ (s : Shifted). s.carry ≡ bit (v / 2 ^ n) 0) (suc n) 32 (λ l. right-bit v n) (λ l. rw (div-eq_of_lt (word_lt v n h (omega arith)))))

-- ---- ASR

asr_divides : (v n : ℕ) → v < 2 ^ 32 → signed_value (asr v n).value ≡ shr_z (signed_value v) (2 ^ n)
unfolding asr
asr_divides v n h =
    chosen (λ (s : Shifted). signed_value s.value ≡ shr_z (signed_value v) (2 ^ n)) (suc n) 32 (below-32 v n h) (λ l. from-32 v n h (omega arith))

-- what the sign fills is even, below 32 places
signed-even : (v n : ℕ) → n < 32 → bit (signed v n) 0 ≡ bit (v / 2 ^ n) 0
unfolding signed bit field
signed-even v n l = ap (λ (x : ℕ). eqb x 1) (go (eqb (v / 2 ^ 31 % 2) 1))
  where
    go : (t : Bool) → (v / 2 ^ n + num t * (2 ^ 32 - 2 ^ (32 - n))) / 1 % 2 ≡ v / 2 ^ n / 1 % 2
    go true = omega (arith, room-even n l)
    go false = omega arith

-- by 32 places all is sign
signed_all : (v : ℕ) → v < 2 ^ 32 → bit (signed v 32) 0 ≡ bit v 31
unfolding signed field
signed_all v h = bit-of (signed v 32) 0 (bit v 31) (go (bit v 31))
  where
    go : (t : Bool) → (v / 2 ^ 32 + num t * (2 ^ 32 - 1)) / 1 % 2 ≡ num t
    go true = omega arith
    go false = omega arith

module _ (v : ℕ) (h : v < 2 ^ 32) where
  asr-low : (n : ℕ) → bit (asr v n).value 0 ≡ pick (ltb n 32) (bit (v / 2 ^ n) 0) (bit v 31)
  unfolding asr
  asr-low n =
      chosen (λ (s : Shifted). bit s.value 0 ≡ pick (ltb n 32) (bit (v / 2 ^ n) 0) (bit v 31)) (suc n) 32
      (λ l. rw (lt-ltb n 32 l) (signed-even v n l))
      (λ l. rw (le-ltb n 32 (omega arith)) (signed_all v h))

  after-asr : (n : ℕ) → bit (after asr v n) 0 ≡ pick (ltb n 32) (bit (v / 2 ^ n) 0) (bit v 31)
  after-asr zero = let e : v / 1 ≡ v = omega arith in rw e
  after-asr (suc n) = asr-low (suc n)

  asr_carry : (n : ℕ) → (asr v (suc n)).carry ≡ bit (after asr v n) 0
  unfolding asr
  asr_carry n =
      rw (after-asr n)
      (chosen (λ (s : Shifted). s.carry ≡ pick (ltb n 32) (bit (v / 2 ^ n) 0) (bit v 31)) (suc (suc n)) 32
      (λ l. rw (lt-ltb n 32 (omega arith)) (right-bit v n))
      (λ l. chosen (λ (b : Bool). bit v 31 ≡ b) (suc n) 32
      (λ k. let e : suc n - 1 ≡ 31 = omega arith in sym (ap (bit v) e) ∙ right-bit v n)
      (λ k. refl)))

-- ---- ROR, and constants

ror_bit : (v n j : ℕ) → v < 2 ^ 32 → j < 32 → bit (ror v n).value j ≡ bit v ((n + j) % 32)
unfolding ror rotated
ror_bit v n j h k = turned_bit v (n % 32) j h (omega arith) k ∙ ap (bit v) (mod-add-mod n 32 j)

after-ror : (v n : ℕ) → v < 2 ^ 32 → bit (after ror v n) 0 ≡ bit v (n % 32)
after-ror v zero h = refl
after-ror v (suc n) h = rw add-zero at (ror_bit v (suc n) 0 h (lit< tt))

ror_carry : (v n : ℕ) → v < 2 ^ 32 → (ror v (suc n)).carry ≡ bit (after ror v n) 0
unfolding ror
ror_carry v n h =
    let e : (suc n + 31) % 32 ≡ n % 32 = omega arith in
    ror_bit v (suc n) 31 h (lit< tt) ∙ ap (bit v) e ∙ sym (after-ror v n h)

ror_whole : (v n : ℕ) → n % 32 ≡ 0 → ror v n ≡ shifted v (bit v 31)
unfolding ror rotated
ror_whole v n e = let k : v / 1 + v % 1 * 2 ^ 32 ≡ v = omega arith in rw (e, k)

constant_bit : (r v j : ℕ) (c : Bool) → v < 2 ^ 32 → j < 32 → bit (constant r v c).value j ≡ bit v ((2 * r + j) % 32)
unfolding constant
constant_bit zero v j c h k = let e : (0 + j) % 32 ≡ j = omega arith in sym (ap (bit v) e)
constant_bit (suc r) v j c h k = rw (ne_eqb (suc r) 0 (λ (e : suc r ≡ 0). omega arith)) (ror_bit v (2 * suc r) j h k)

constant_carry : (r v : ℕ) (c : Bool) → 0 < r → (constant r v c).carry ≡ bit (constant r v c).value 31
unfolding constant ror
constant_carry r v c h = rw (ne_eqb r 0 (λ (e : r ≡ 0). omega arith))

-- ---- every result is a word

asr-lt : (v n : ℕ) → v < 2 ^ 32 → (asr v n).value < 2 ^ 32
unfolding asr
asr-lt v n h =
    chosen (λ (s : Shifted). s.value < 2 ^ 32) (suc n) 32 (signed_lt v n h) (λ l. rw (← (signed_whole v h)) (signed_lt v 31 h (lit< tt)))

ror-lt : (v n : ℕ) → v < 2 ^ 32 → (ror v n).value < 2 ^ 32
unfolding ror rotated
ror-lt v n h = turned-word-lt v (n % 32) h (omega arith)

words : (kind v n : ℕ) → v < 2 ^ 32 → (shift kind v n).value < 2 ^ 32
unfolding shift
words zero v n h = rw (lsl_multiplies v n) (mod-lt (v * 2 ^ n) (pow_pos 32))
words (suc zero) v n h = rw (lsr_divides v n h) (omega (arith, shr_le v n))
words (suc (suc zero)) v n h = asr-lt v n h
words (suc (suc (suc kind))) v n h = ror-lt v n h

pub shifts : Shifts
shifts = record {
  words = words;
  lsl_multiplies = lsl_multiplies;
  lsr_divides = lsr_divides;
  asr_divides = asr_divides;
  ror_bit = ror_bit;
  lsl_carry = lsl_carry;
  lsr_carry = lsr_carry;
  asr_carry = λ v n h. asr_carry v h n;
  ror_carry = ror_carry;
  ror_whole = ror_whole;
  constant_bit = constant_bit;
  constant_carry = constant_carry;
}
