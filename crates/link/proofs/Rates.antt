-- A quotient rounded up, and the rate by it. Assumes nothing.
use Rattle.std.proofs.Common.{◌≡◌, ℕ, suc, ◌+◌, ◌-◌, ◌*◌, ◌/◌, ◌%◌, ◌^◌, ◌<◌, ◌≤◌, min, sym, ap, ◌∙◌, ⊎_elim, arith}
use Rattle.std.proofs.Math.Nat.{div-zero}
use Rattle.std.proofs.lemmas.Bool.{cases_lt, cases_eq}
use Rattle.std.proofs.lemmas.Nat.{div-mul-add, div-add-mod', mod_below, div_below}
use Rattle.std.specs.Int.{div_ceil}
use Rattle.link.specs.declared.Summary.{Summary}
use Rattle.link.specs.Rate.{later_bits, span, rounded_up, rate, Rates}

-- as `div_ceil` has it
pub ceiling : (x y : ℕ) → 0 < y → x / y + min 1 (x % y) ≡ rounded_up x y
ceiling x y h = ⊎_elim whole part (cases_eq (x % y) 0)
  where
    whole : x % y ≡ 0 → x / y + min 1 (x % y) ≡ rounded_up x y
    whole e =
        let d = div-add-mod' x y in
        let s : x + y - 1 ≡ x / y * y + (y - 1) = omega (arith, d, e) in
        let l : y - 1 < y = omega arith in
        rw (s, div-mul-add (x / y) y (y - 1) l) (omega (arith, e))

    part : (x % y ≡ 0 → ⊥) → x / y + min 1 (x % y) ≡ rounded_up x y
    part n =
        let d = div-add-mod' x y in
        let s : x + y - 1 ≡ (x / y + 1) * y + (x % y - 1) = omega (arith, d, n) in
        let l : x % y - 1 < y = omega (arith, mod_below x y h) in
        rw (s, div-mul-add (x / y + 1) y (x % y - 1) l) (omega (arith, n))

-- up to a divisor it is 1, and 0 of nothing; so a divisor that stays at the greatest number does no harm
none : (y : ℕ) → 0 < y → rounded_up 0 y ≡ 0
none y h = let s : 0 + y - 1 ≡ 0 * y + (y - 1) = omega arith in let l : y - 1 < y = omega arith in rw s (div-mul-add 0 y (y - 1) l)

one : (x y : ℕ) → 0 < x → x ≤ y → rounded_up x y ≡ 1
one x y p h = let s : x + y - 1 ≡ 1 * y + (x - 1) = omega arith in let l : x - 1 < y = omega arith in rw s (div-mul-add 1 y (x - 1) l)

pub far : (x y z : ℕ) → 0 < y → x ≤ y → x ≤ z → y ≤ z → rounded_up x y ≡ rounded_up x z
far x y z p h k m = ⊎_elim nothing some (cases_eq x 0)
  where
    nothing : x ≡ 0 → rounded_up x y ≡ rounded_up x z
    nothing e = let q : 0 < z = omega arith in rw e (none y p ∙ sym (none z q))

    some : (x ≡ 0 → ⊥) → rounded_up x y ≡ rounded_up x z
    some n = let q : 0 < x = omega (arith, n) in one x y q h ∙ sym (one x z q k)

-- it is the least n with x ≤ y * n
pub round_enough : (x y : ℕ) → 0 < y → x ≤ y * rounded_up x y
round_enough x y h =
    let d = div-add-mod' (x + y - 1) y in
    let m = mod_below (x + y - 1) y h in
    omega (arith, d, m)

pub round_least : (x y n : ℕ) → 0 < y → x ≤ y * n → rounded_up x y ≤ n
round_least x y n h k =
    let b : x + y - 1 < suc n * y = omega arith in
    let l = div_below (x + y - 1) y (suc n) h b in
    omega (arith, l)

pub rates : (s : Summary) (clock : ℕ) → Rates s clock
unfolding rate
rates s clock = record {
  enough = λ h. round_enough (later_bits s * clock) (100 * span s) (omega (arith, h));
  least = λ n h k. round_least (later_bits s * clock) (100 * span s) n (omega (arith, h)) k;
  none = λ h. none-over (omega (arith, h));
}
  where
    none-over : span s ≡ 0 → rounded_up (later_bits s * clock) (100 * span s) ≡ 0
    none-over e = rw e (div-zero _)

-- the rate as the code finds it, with a divisor that stays at the greatest number
pub rate-by : (s : Summary) (clock bits ticks divisor result : ℕ) → bits ≡ later_bits s → ticks ≡ span s → (ticks ≡ 0 → ⊥) → divisor ≡ min (ticks * 100) (2 ^ 64 - 1)
    → later_bits s * clock < 2 ^ 64 → result ≡ div_ceil (bits * clock) divisor → result ≡ rate s clock
unfolding rate
rate-by s clock bits ticks divisor result b t n d small r =
    let product : bits * clock ≡ later_bits s * clock = ap (λ x. x * clock) b in
    let some : 0 < divisor = omega (arith, d, n) in
    r ∙ ceiling (bits * clock) divisor some ∙ ap (λ x. rounded_up x divisor) product ∙ ⊎_elim beyond within (cases_lt (2 ^ 64 - 1) (ticks * 100))
  where
    within : ticks * 100 ≤ 2 ^ 64 - 1 → rounded_up (later_bits s * clock) divisor ≡ rounded_up (later_bits s * clock) (100 * span s)
    within h = let e : divisor ≡ 100 * span s = omega (arith, d, t, h) in ap (λ y. rounded_up (later_bits s * clock) y) e

    beyond : 2 ^ 64 - 1 < ticks * 100 → rounded_up (later_bits s * clock) divisor ≡ rounded_up (later_bits s * clock) (100 * span s)
    beyond h =
        let some : 0 < divisor = omega (arith, d, n) in
        let x : later_bits s * clock ≤ divisor = omega (arith, d, small, h) in
        let y : divisor ≤ 100 * span s = omega (arith, d, t, h) in
        far (later_bits s * clock) divisor (100 * span s) some x (omega (arith, x, y)) y
