-- The walk over digit pairs: what each turn and the end make of the digits, the sum and the bytes. Assumes nothing.
use mathlib.Core.Path.{◌≡◌, refl, sym, ap, ◌∙◌}
use mathlib.Core.Bool.{Bool, true, false, ◌&&◌}
use mathlib.Core.List.{List, [], ◌∷◌, ◌++◌}
use Prim.Native.Nat.{ℕ, ◌+◌, ◌*◌, ◌/◌, ◌%◌, ◌<◌, ◌≤◌, max}
use native.Mathlib.Omega.{arith}
use borrow.Author.Tests.{lt-ltb, le-ltb, ltb-true, ltb-false}
use lib.Dec.{ltb}
use lib.ListN.{length, take, drop, set, get_or}
use Rattle.std.specs.Prelude.{sum}
use Rattle.std.proofs.lemmas.List.Sums.{sum_by-cons}
use Rattle.std.proofs.lemmas.List.{drop_more, drop_all, take_more_set, take_all, append_assoc, append-nil}
use Rattle.text.specs.Digit.{value_of}
use Rattle.intel_hex.specs.Record.{all_digits, bytes_of}

pub sum-cons : (byte : ℕ) (bytes : List ℕ) → sum (byte ∷ bytes) ≡ byte + sum bytes
sum-cons byte bytes = sum_by-cons (λ x. x) byte bytes

-- the byte of pair k
abbrev pub pair_at : List ℕ → ℕ → ℕ
pair_at digits k = value_of (get_or digits (2 * k) 0) * 16 + value_of (get_or digits (2 * k + 1) 0)

more : (digits : List ℕ) (k : ℕ) → k < length digits / 2
    → drop (2 * k) digits ≡ get_or digits (2 * k) 0 ∷ get_or digits (2 * k + 1) 0 ∷ drop (2 * (k + 1)) digits
more digits k h =
    let there : 2 * k + 1 < length digits = omega (arith, h) in
    let next : 2 * k + 1 + 1 ≡ 2 * (k + 1) = omega arith in
    rw (drop_more digits (2 * k) 0 (omega (arith, there)), drop_more digits (2 * k + 1) 0 there, next)

none : (digits : List ℕ) (k : ℕ) → length digits ≤ 2 * k → drop (2 * k) digits ≡ []
none digits k h = drop_all (2 * k) digits h

pub joined : (a b c : Bool) → (a && (b && c)) ≡ ((a && b) && c)
joined true b c = refl
joined false b c = refl

-- a value is a digit's; so are all of which it is the worst
abbrev pub well : ℕ → Bool
well value = ltb value 16

both-well : (a b : ℕ) → well (max a b) ≡ (well a && well b)
both-well a b = go (well a) refl (well b) refl
  where
    go : (s : Bool) → well a ≡ s → (t : Bool) → well b ≡ t → well (max a b) ≡ (s && t)
    go true e true f = lt-ltb (max a b) 16 (omega (arith, ltb-true a 16 e, ltb-true b 16 f))
    go true e false f = le-ltb (max a b) 16 (omega (arith, ltb-false b 16 f))
    go false e t f = le-ltb (max a b) 16 (omega (arith, ltb-false a 16 e))

bytes-more : (digits : List ℕ) (k : ℕ) → k < length digits / 2 → bytes_of (drop (2 * k) digits) ≡ pair_at digits k ∷ bytes_of (drop (2 * (k + 1)) digits)
unfolding bytes_of
bytes-more digits k h = rw (more digits k h)

-- ---- a turn of the walk: the values of a pair's digits, and its byte

pub turn-digits : (digits : List ℕ) (k worst high low new : ℕ) → k < length digits / 2 → high ≡ value_of (get_or digits (2 * k) 0)
    → low ≡ value_of (get_or digits (2 * k + 1) 0) → new ≡ max (max worst high) low → all_digits digits ≡ (well worst && all_digits (drop (2 * k) digits))
    → all_digits digits ≡ (well new && all_digits (drop (2 * (k + 1)) digits))
turn-digits digits k worst high low new h is_high is_low made e =
    let rest = all_digits (drop (2 * (k + 1)) digits) in
    let all : well new ≡ ((well worst && well high) && well low) =
    ap well made ∙ both-well (max worst high) low ∙ ap (λ b. b && well low) (both-well worst high) in
    let split : all_digits (drop (2 * k) digits) ≡ (well high && (well low && rest)) = ap all_digits (more digits k h) ∙ rw (is_high, is_low) refl in
    e ∙ ap (λ b. well worst && b) split ∙ joined (well worst) (well high) (well low && rest) ∙ joined (well worst && well high) (well low) rest
    ∙ ap (λ b. b && rest) (sym all)

-- the byte of two digits does not wrap
byte-of : (digits : List ℕ) (k worst high low new byte : ℕ) → high ≡ value_of (get_or digits (2 * k) 0) → low ≡ value_of (get_or digits (2 * k + 1) 0)
    → new ≡ max (max worst high) low → byte ≡ (high * 16 % 256 + low) % 256 → new < 16 → byte ≡ pair_at digits k
byte-of digits k worst high low new byte is_high is_low made is small = omega (arith, is_high, is_low, made, is, small)

pub turn-sum : (digits : List ℕ) (k worst high low new so_far byte : ℕ) → k < length digits / 2 → high ≡ value_of (get_or digits (2 * k) 0)
    → low ≡ value_of (get_or digits (2 * k + 1) 0) → new ≡ max (max worst high) low → byte ≡ (high * 16 % 256 + low) % 256
    → (worst < 16 → (so_far + sum (bytes_of (drop (2 * k) digits))) % 256 ≡ sum (bytes_of digits) % 256)
    → new < 16 → ((so_far + byte) % 256 + sum (bytes_of (drop (2 * (k + 1)) digits))) % 256 ≡ sum (bytes_of digits) % 256
turn-sum digits k worst high low new so_far byte h is_high is_low made is e small =
    let pair = byte-of digits k worst high low new byte is_high is_low made is small in
    let longer : (so_far + (pair_at digits k + sum (bytes_of (drop (2 * (k + 1)) digits)))) % 256 ≡ sum (bytes_of digits) % 256 =
    rw (bytes-more digits k h, sum-cons (pair_at digits k) (bytes_of (drop (2 * (k + 1)) digits))) at e (omega (arith, made, small)) in
    omega (arith, longer, pair)

pub turn-held : (digits into changed : List ℕ) (k worst high low new byte : ℕ) → k < length digits / 2 → k < length into
    → high ≡ value_of (get_or digits (2 * k) 0) → low ≡ value_of (get_or digits (2 * k + 1) 0) → new ≡ max (max worst high) low
    → byte ≡ (high * 16 % 256 + low) % 256 → changed ≡ set into k byte → (worst < 16 → take k into ++ bytes_of (drop (2 * k) digits) ≡ bytes_of digits)
    → new < 16 → take (k + 1) changed ++ bytes_of (drop (2 * (k + 1)) digits) ≡ bytes_of digits
turn-held digits into changed k worst high low new byte h room is_high is_low made is stored e small =
    let pair = byte-of digits k worst high low new byte is_high is_low made is small in
    let left = bytes_of (drop (2 * (k + 1)) digits) in
    ap (λ x. take (k + 1) x ++ left) stored ∙ ap (λ x. x ++ left) (take_more_set into k byte room) ∙ append_assoc (take k into) (byte ∷ []) left
    ∙ ap (λ b. take k into ++ (b ∷ left)) pair ∙ ap (λ x. take k into ++ x) (sym (bytes-more digits k h)) ∙ e (omega (arith, made, small))

-- ---- the end of the walk

pub end-digits : (digits : List ℕ) (k worst : ℕ) → length digits ≤ 2 * k → all_digits digits ≡ (well worst && all_digits (drop (2 * k) digits))
    → all_digits digits ≡ well worst
end-digits digits k worst h e = e ∙ ap (λ x. well worst && all_digits x) (none digits k h) ∙ alone (well worst)
  where
    alone : (b : Bool) → (b && true) ≡ b
    alone true = refl
    alone false = refl

bytes-none : (digits : List ℕ) (k : ℕ) → length digits ≤ 2 * k → bytes_of (drop (2 * k) digits) ≡ []
unfolding bytes_of
bytes-none digits k h = rw (none digits k h)

pub end-sum : (digits : List ℕ) (k so_far : ℕ) → length digits ≤ 2 * k → so_far < 256
    → (so_far + sum (bytes_of (drop (2 * k) digits))) % 256 ≡ sum (bytes_of digits) % 256 → so_far ≡ sum (bytes_of digits) % 256
end-sum digits k so_far h fits e =
    let nothing : (so_far + 0) % 256 ≡ sum (bytes_of digits) % 256 = rw (bytes-none digits k h) at e in
    omega (arith, nothing, fits)

pub end-held : (digits into : List ℕ) (k : ℕ) → length digits ≤ 2 * k → length into ≤ k → take k into ++ bytes_of (drop (2 * k) digits) ≡ bytes_of digits
    → into ≡ bytes_of digits
end-held digits into k h long e = sym (append-nil into) ∙ rw (bytes-none digits k h, take_all k into long) at e
