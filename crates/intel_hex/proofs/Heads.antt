-- A record by its head: whether it is sound, and what it is by its type; and what the reader does with it. Assumes nothing.
use mathlib.Core.Path.{◌≡◌, refl, sym, ap, ◌∙◌}
use mathlib.Core.Bool.{Bool, true, false, not, ◌&&◌}
use mathlib.Core.List.{List, [], ◌∷◌, ◌++◌}
use Prim.Native.Nat.{ℕ, suc, ◌+◌, ◌-◌, ◌*◌, ◌/◌, ◌%◌, ◌<◌, ◌≤◌, min}
use native.Mathlib.Omega.{arith}
use borrow.Author.Tests.{lt-ltb, le-ltb, eq-eqb, ne_eqb}
use borrow.Rule.Slice.PartMut.{put_mid}
use lib.Dec.{eqb}
use lib.ListN.{length, length-take, take, drop, get_or}
use Rattle.std.specs.Prelude.{sum}
use Rattle.std.proofs.lemmas.List.{take-append-drop, take_min, take_at, take_rest, get_or-take}
use Rattle.std.proofs.lemmas.List.Sums.{sum_by-append}
use Rattle.bits.specs.Choice.{pick}
use Rattle.text.specs.Digit.{value_of}
use Rattle.intel_hex.specs.declared.records.Head.{Head}
use Rattle.intel_hex.specs.Record.{Record, Unsound, Bytes, End, Upper, is_digit, all_digits, bytes_of, typed, sums_to_zero}
use Rattle.intel_hex.specs.Numbers.{unsound, outside}
use Rattle.intel_hex.specs.Reader.{answered, refused, place, over, read_on}
use Rattle.intel_hex.specs.Walk.{meaning, counted_record, headed_record}
use Rattle.intel_hex.proofs.Over.{over-none, over-part}
use Rattle.intel_hex.proofs.Pairs.{sum-cons, joined}

-- the bytes of a head and of what follows
abbrev pub all_bytes : Head → List ℕ → List ℕ
all_bytes h digits = h.count ∷ h.high ∷ h.low ∷ h.kind ∷ bytes_of digits

head-sum : (h : Head) (digits : List ℕ) → sum (all_bytes h digits) ≡ h.count + h.high + h.low + h.kind + sum (bytes_of digits)
head-sum h digits =
    let e0 = sum-cons h.count (h.high ∷ h.low ∷ h.kind ∷ bytes_of digits) in
    let e1 = sum-cons h.high (h.low ∷ h.kind ∷ bytes_of digits) in
    let e2 = sum-cons h.low (h.kind ∷ bytes_of digits) in
    let e3 = sum-cons h.kind (bytes_of digits) in
    omega (arith, e0, e1, e2, e3)

-- the test that the code makes
abbrev pub tested : Head → List ℕ → Bool
tested h digits = all_digits digits && eqb ((h.count + h.high + h.low + h.kind + sum (bytes_of digits)) % 256) 0

pub unsound-head : (h : Head) (digits : List ℕ) → tested h digits ≡ false → headed_record h digits ≡ Unsound
unfolding meaning
unsound-head h digits e = go (all_digits digits) (rw (← head-sum h digits) at e)
  where
    go : (b : Bool) → (b && sums_to_zero (all_bytes h digits)) ≡ false → pick b (meaning (all_bytes h digits)) Unsound ≡ Unsound
    go true e = rw e
    go false e = refl

pub sound-head : (h : Head) (digits : List ℕ) → tested h digits ≡ true → headed_record h digits ≡ typed h.kind (all_bytes h digits)
unfolding meaning
sound-head h digits e = go (all_digits digits) (rw (← head-sum h digits) at e)
  where
    go : (b : Bool) → (b && sums_to_zero (all_bytes h digits)) ≡ true → pick b (meaning (all_bytes h digits)) Unsound ≡ typed h.kind (all_bytes h digits)
    go true e = rw e
    go false e = absurd cc

-- ---- what the reader does

-- whatever it left in memory
pub read-unsound : (k upper : ℕ) (mem new : List ℕ) (later : List Record) (r : Record) → r ≡ Unsound → length new ≡ length mem
    → read_on k upper mem (r ∷ later) ≡ refused unsound (suc k) new
unfolding read_on
read-unsound k upper mem new later r e long = rw (e, long)

-- data of which all is inside, or of which there is none
pub read-inside : (k upper address : ℕ) (bytes mem : List ℕ) (later : List Record) (r : Record) → r ≡ Bytes address bytes
    → place upper address + length bytes ≤ length mem → read_on k upper mem (r ∷ later) ≡ read_on (suc k) upper (over (place upper address) bytes mem) later
unfolding read_on
read-inside k upper address bytes mem later r e inside =
    rw (e, le-ltb (length mem) (place upper address + length bytes) inside) (by-none (not (eqb (length bytes) 0)))
  where
    by-none : (b : Bool) → pick (b && false) (refused outside (suc k) mem) (read_on (suc k) upper (over (place upper address) bytes mem) later)
        ≡ read_on (suc k) upper (over (place upper address) bytes mem) later
    by-none true = refl
    by-none false = refl

pub read-none : (k upper address : ℕ) (bytes mem : List ℕ) (later : List Record) (r : Record) → r ≡ Bytes address bytes → length bytes ≡ 0
    → read_on k upper mem (r ∷ later) ≡ read_on (suc k) upper mem later
unfolding read_on
read-none k upper address bytes mem later r e none =
    rw (e, eq-eqb (length bytes) 0 none) (ap (λ m. read_on (suc k) upper m later) (over-none (place upper address) bytes mem none))

pub read-beyond : (k upper address : ℕ) (bytes mem : List ℕ) (later : List Record) (r : Record) → r ≡ Bytes address bytes → (length bytes ≡ 0 → ⊥)
    → length mem < place upper address + length bytes → read_on k upper mem (r ∷ later) ≡ refused outside (suc k) mem
unfolding read_on
read-beyond k upper address bytes mem later r e some past =
    rw (e, ne_eqb (length bytes) 0 some, lt-ltb (length mem) (place upper address + length bytes) past)

-- ---- a record of data: its bytes, and how many they are

pub bytes-length : (digits : List ℕ) → length (bytes_of digits) ≡ length digits / 2
unfolding bytes_of
bytes-length [] = refl
bytes-length (high ∷ []) = refl
bytes-length (high ∷ low ∷ digits) =
    let h = bytes-length digits in
    omega (arith, h)

pub data-head : (h : Head) (digits : List ℕ) → h.kind ≡ 0 → tested h digits ≡ true
    → headed_record h digits ≡ Bytes (h.high * 256 + h.low) (take h.count (bytes_of digits))
data-head h digits kind e = sound-head h digits e ∙ rw kind refl

pub data-length : (h : Head) (digits : List ℕ) → length digits ≡ 2 * (h.count + 1) → length (take h.count (bytes_of digits)) ≡ h.count
data-length h digits long =
    let n = bytes-length digits in
    simp length-take (omega (arith, long, n))

-- so many bytes of a list are those, however many were asked for
take-long : (m n : ℕ) (bytes into : List ℕ) → into ≡ take m bytes → length into ≡ n → into ≡ take n bytes
take-long m n bytes into e long =
    let least : min m (length bytes) ≡ n = sym (length-take m bytes) ∙ ap length (sym e) ∙ long in
    e ∙ sym (take_min m bytes) ∙ ap (λ i. take i bytes) least

pub put-inside : (k upper at n m : ℕ) (h : Head) (digits mem into : List ℕ) (later : List Record) → h.kind ≡ 0 → length digits ≡ 2 * (h.count + 1)
    → tested h digits ≡ true → at ≡ place upper (h.high * 256 + h.low) → n ≡ h.count → at + h.count ≤ length mem → into ≡ take m (bytes_of digits)
    → length into ≡ h.count → read_on k upper mem (headed_record h digits ∷ later) ≡ read_on (suc k) upper (put_mid at n mem into) later
put-inside k upper at n m h digits mem into later kind long e there part inside held size =
    let bytes = take h.count (bytes_of digits) in
    let is : into ≡ bytes = take-long m h.count (bytes_of digits) into held size in
    let count = data-length h digits long in
    let room : place upper (h.high * 256 + h.low) + length bytes ≤ length mem = omega (arith, count, inside, there) in
    let put : put_mid at n mem into ≡ over (place upper (h.high * 256 + h.low)) bytes mem =
    over-part at n into mem (size ∙ sym part) ∙ ap (λ a. over a into mem) there ∙ ap (λ x. over (place upper (h.high * 256 + h.low)) x mem) is in
    read-inside k upper (h.high * 256 + h.low) bytes mem later (headed_record h digits) (data-head h digits kind e) room ∙ ap (λ x. read_on (suc k) upper x later) (sym put)

-- ---- records of the other types

pub unsound-type : (h : Head) (digits : List ℕ) → typed h.kind (all_bytes h digits) ≡ Unsound → headed_record h digits ≡ Unsound
unsound-type h digits e = go (tested h digits) refl
  where
    go : (b : Bool) → tested h digits ≡ b → headed_record h digits ≡ Unsound
    go true t = sound-head h digits t ∙ e
    go false t = unsound-head h digits t

pub unsound-end : (h : Head) (digits : List ℕ) → h.kind ≡ 1 → (eqb h.count 0 && eqb (h.high * 256 + h.low) 0) ≡ false → headed_record h digits ≡ Unsound
unsound-end h digits kind e = unsound-type h digits (rw (kind, e) refl)

pub unsound-upper : (h : Head) (digits : List ℕ) → h.kind ≡ 4 → (eqb h.count 2 && eqb (h.high * 256 + h.low) 0) ≡ false → headed_record h digits ≡ Unsound
unsound-upper h digits kind e = unsound-type h digits (rw (kind, e) refl)

pub unsound-other : (h : Head) (digits : List ℕ) → (h.kind ≡ 0 → ⊥) → (h.kind ≡ 1 → ⊥) → (h.kind ≡ 4 → ⊥) → headed_record h digits ≡ Unsound
unsound-other h digits no_data no_end no_upper =
    unsound-type h digits (rw (ne_eqb h.kind 0 no_data, ne_eqb h.kind 1 no_end, ne_eqb h.kind 4 no_upper) refl)

pub end-head : (h : Head) (digits : List ℕ) → h.kind ≡ 1 → (eqb h.count 0 && eqb (h.high * 256 + h.low) 0) ≡ true → tested h digits ≡ true
    → headed_record h digits ≡ End
end-head h digits kind e t = sound-head h digits t ∙ rw (kind, e) refl

pub upper-head : (h : Head) (digits half : List ℕ) → h.kind ≡ 4 → (eqb h.count 2 && eqb (h.high * 256 + h.low) 0) ≡ true → tested h digits ≡ true
    → half ≡ take 2 (bytes_of digits) → headed_record h digits ≡ Upper (get_or half 0 0 * 256 + get_or half 1 0)
upper-head h digits half kind e t held = sound-head h digits t ∙ rw (kind, e, held, get_or-take 2 (bytes_of digits) 0 0 (omega arith), get_or-take 2 (bytes_of digits) 1 0 (omega arith)) refl

pub read-end : (k upper : ℕ) (mem : List ℕ) (later : List Record) (r : Record) → r ≡ End → read_on k upper mem (r ∷ later) ≡ answered 0 0 mem
unfolding read_on
read-end k upper mem later r e = rw e

pub read-upper : (k upper half : ℕ) (mem : List ℕ) (later : List Record) (r : Record) → r ≡ Upper half
    → read_on k upper mem (r ∷ later) ≡ read_on (suc k) half mem later
unfolding read_on
read-upper k upper half mem later r e = rw e

-- ---- a head, and the digits after it

pub digits-append : (xs ys : List ℕ) → all_digits (xs ++ ys) ≡ (all_digits xs && all_digits ys)
digits-append [] ys = refl
digits-append (x ∷ xs) ys = rw (digits-append xs ys) (joined (is_digit x) (all_digits xs) (all_digits ys))

pub bytes-append : (xs ys : List ℕ) → length xs % 2 ≡ 0 → bytes_of (xs ++ ys) ≡ bytes_of xs ++ bytes_of ys
unfolding bytes_of
bytes-append [] ys e = refl
bytes-append (x ∷ []) ys e = absurd (omega (arith, e))
bytes-append (x ∷ y ∷ xs) ys e = ap (λ l. (value_of x * 16 + value_of y) ∷ l) (bytes-append xs ys (omega (arith, e)))

-- digits in two parts, the first of whole pairs
pub parts-digits : (k : ℕ) (digits : List ℕ) → all_digits digits ≡ (all_digits (take k digits) && all_digits (drop k digits))
parts-digits k digits = ap all_digits (sym (take-append-drop k digits)) ∙ digits-append (take k digits) (drop k digits)

parts-bytes : (n : ℕ) (digits : List ℕ) → 2 * n ≤ length digits → bytes_of digits ≡ bytes_of (take (2 * n) digits) ++ bytes_of (drop (2 * n) digits)
parts-bytes n digits h =
    let whole : length (take (2 * n) digits) % 2 ≡ 0 = ap (λ m. m % 2) (length-take (2 * n) digits) ∙ omega (arith, h) in
    ap bytes_of (sym (take-append-drop (2 * n) digits)) ∙ bytes-append (take (2 * n) digits) (drop (2 * n) digits) whole

pub parts-sum : (n : ℕ) (digits : List ℕ) → 2 * n ≤ length digits
    → sum (bytes_of digits) ≡ sum (bytes_of (take (2 * n) digits)) + sum (bytes_of (drop (2 * n) digits))
parts-sum n digits h = ap sum (parts-bytes n digits h) ∙ sum_by-append (λ x. x) (bytes_of (take (2 * n) digits)) (bytes_of (drop (2 * n) digits))

pub parts-held : (n : ℕ) (digits into : List ℕ) → 2 * n ≤ length digits → into ≡ bytes_of (take (2 * n) digits) → into ≡ take n (bytes_of digits)
parts-held n digits into h held =
    let size : length (bytes_of (take (2 * n) digits)) ≡ n =
    bytes-length (take (2 * n) digits) ∙ ap (λ m. m / 2) (length-take (2 * n) digits) ∙ omega (arith, h) in
    held ∙ sym (take_at (bytes_of (take (2 * n) digits)) (bytes_of (drop (2 * n) digits)) n size) ∙ ap (take n) (sym (parts-bytes n digits h))

three : (xs : List ℕ) → length xs ≡ 3 → xs ≡ get_or xs 0 0 ∷ get_or xs 1 0 ∷ get_or xs 2 0 ∷ []
three [] e = absurd (omega (arith, e))
three (x ∷ []) e = absurd (omega (arith, e))
three (x ∷ y ∷ []) e = absurd (omega (arith, e))
three (x ∷ y ∷ z ∷ []) e = refl
three (x ∷ y ∷ z ∷ w ∷ xs) e = absurd (omega (arith, e))

-- six digits after the count are the rest of a head
pub counted-head : (h : Head) (digits into : List ℕ) → 6 ≤ length digits → all_digits (take 6 digits) ≡ true → into ≡ bytes_of (take 6 digits)
    → h.high ≡ get_or into 0 0 → h.low ≡ get_or into 1 0 → h.kind ≡ get_or into 2 0
    → counted_record h.count digits ≡ headed_record h (take (length digits - 6) (drop 6 digits))
counted-head h digits into long e held high low kind =
    let n : length (bytes_of (take 6 digits)) ≡ 3 =
    bytes-length (take 6 digits) ∙ ap (λ n. n / 2) (length-take 6 digits) ∙ omega (arith, long) in
    let head : bytes_of (take 6 digits) ≡ h.high ∷ h.low ∷ h.kind ∷ [] = rw (← held, high, low, kind) (three into (ap length held ∙ n)) in
    let all : all_digits digits ≡ all_digits (drop 6 digits) = parts-digits 6 digits ∙ rw e refl in
    let bytes : bytes_of digits ≡ h.high ∷ h.low ∷ h.kind ∷ bytes_of (drop 6 digits) = parts-bytes 3 digits long ∙ rw head refl in
    rw (all, bytes, take_rest digits 6)

pub uncounted : (count : ℕ) (digits : List ℕ) → all_digits (take 6 digits) ≡ false → counted_record count digits ≡ Unsound
uncounted count digits e =
    let none : all_digits digits ≡ false = parts-digits 6 digits ∙ rw e refl in
    rw none

-- ---- the test, by the two parts of the digits

pub bad-data : (h : Head) (digits front : List ℕ) (k : ℕ) → front ≡ take k digits → all_digits front ≡ false → false ≡ tested h digits
bad-data h digits front k is bad = sym (rw (parts-digits k digits, ← is, bad) refl)

pub bad-last : (h : Head) (digits last : List ℕ) (k : ℕ) → last ≡ drop k digits → all_digits last ≡ false → false ≡ tested h digits
bad-last h digits last k is bad = sym (rw (parts-digits k digits, ← is, bad) (none (all_digits (take k digits)) _))
  where
    none : (a b : Bool) → ((a && false) && b) ≡ false
    none true b = refl
    none false b = refl

pub good-parts : (h : Head) (digits front last : List ℕ) (n so_far of_data of_last : ℕ) → 2 * n ≤ length digits → front ≡ take (2 * n) digits
    → last ≡ drop (2 * n) digits → all_digits front ≡ true → all_digits last ≡ true → so_far ≡ (h.count + h.high + h.low + h.kind) % 256
    → of_data ≡ sum (bytes_of front) % 256 → of_last ≡ sum (bytes_of last) % 256
    → eqb (((so_far + of_data) % 256 + of_last) % 256) 0 ≡ tested h digits
good-parts h digits front last n so_far of_data of_last room is_data is_last d l e_head e_data e_last =
    let all : all_digits digits ≡ true = parts-digits (2 * n) digits ∙ rw (← is_data, ← is_last, d, l) refl in
    let parts = parts-sum n digits room in
    let s_data = e_data ∙ ap (λ x. sum (bytes_of x) % 256) is_data in
    let s_last = e_last ∙ ap (λ x. sum (bytes_of x) % 256) is_last in
    let same : ((so_far + of_data) % 256 + of_last) % 256 ≡ (h.count + h.high + h.low + h.kind + sum (bytes_of digits)) % 256 =
    omega (arith, parts, s_data, s_last, e_head) in
    ap (λ x. eqb x 0) same ∙ ap (λ b. b && eqb ((h.count + h.high + h.low + h.kind + sum (bytes_of digits)) % 256) 0) (sym all)
