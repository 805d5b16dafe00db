-- A written record is read back: its digits are digits, its bytes are those written, and they sum to 0. Assumes nothing.
use mathlib.Core.Path.{◌≡◌, refl, ap, ◌∙◌}
use mathlib.Core.Bool.{true}
use mathlib.Core.List.{List, [], ◌∷◌, ◌++◌, map}
use Prim.Native.Nat.{ℕ, ◌+◌, ◌*◌, ◌/◌, ◌%◌, ◌<◌}
use native.Mathlib.Omega.{arith}
use borrow.Author.Tests.{lt-ltb, eq-eqb}
use lib.ListN.{length, length-append, take}
use Rattle.std.specs.Prelude.{sum}
use Rattle.std.proofs.lemmas.List.{take_at, append_assoc}
use Rattle.std.proofs.lemmas.List.Sums.{sum_by_push}
use Rattle.text.specs.Digit.{digit}
use Rattle.text.specs.Text.{hex_digits}
use Rattle.text.proofs.Inverse.{digits}
use Rattle.intel_hex.specs.Lines.{line_feed}
use Rattle.intel_hex.specs.Record.{Bytes, End, colon, is_digit, all_digits, bytes_of, typed, sums_to_zero, well_formed, record_of}
use Rattle.intel_hex.specs.Reader.{records}
use Rattle.intel_hex.specs.Writer.{pairs, checksum, unsummed, summed, record_line}
use Rattle.intel_hex.proofs.FirstLine.{by_line_feed, plain-lines}
use Rattle.intel_hex.proofs.Written.{pairs-length}

-- each is a byte
abbrev pub Small : List ℕ → Type 0
Small [] = Unit {0}
Small (byte ∷ bytes) = (byte < 256) × Small bytes

two : (byte : ℕ) → hex_digits 2 byte ≡ digit (byte / 16 % 16) ∷ digit (byte % 16) ∷ []
unfolding hex_digits
two byte = refl

digit-is : (d : ℕ) → d < 16 → is_digit (digit d) ≡ true
digit-is d h = rw (digits.inverse d h) (lt-ltb d 16 h)

pub pairs-digits : (bytes : List ℕ) → all_digits (pairs bytes) ≡ true
unfolding pairs
pairs-digits [] = refl
pairs-digits (byte ∷ bytes) =
    rw (two byte, digit-is (byte / 16 % 16) (omega arith), digit-is (byte % 16) (omega arith)) (pairs-digits bytes)

pub pairs-bytes : (bytes : List ℕ) → Small bytes → bytes_of (pairs bytes) ≡ bytes
unfolding pairs bytes_of
pairs-bytes [] s = refl
pairs-bytes (byte ∷ bytes) s =
    let high = digits.inverse (byte / 16 % 16) (omega arith) in
    let low = digits.inverse (byte % 16) (omega arith) in
    let whole : byte / 16 % 16 * 16 + byte % 16 ≡ byte = omega (arith, s.0) in
    rw (two byte, high, low, whole, pairs-bytes bytes s.1) refl

-- ---- a record

-- its line without the line feed
abbrev pub written_line : ℕ → ℕ → List ℕ → List ℕ
written_line type address bytes = colon ∷ pairs (summed (unsummed type address bytes))

small-push : (bytes : List ℕ) (byte : ℕ) → Small bytes → byte < 256 → Small (bytes ++ byte ∷ [])
small-push [] byte s h = (h, tt {0})
small-push (b ∷ bytes) byte s h = (s.0, small-push bytes byte s.1 h)

summed-small : (type address : ℕ) (bytes : List ℕ) → type < 256 → length bytes < 256 → Small bytes → Small (summed (unsummed type address bytes))
summed-small type address bytes t n s =
    small-push (unsummed type address bytes) (checksum (unsummed type address bytes)) (n, (omega arith, (omega arith, (t, s)))) (omega arith)

summed-sums : (bytes : List ℕ) → sums_to_zero (summed bytes) ≡ true
summed-sums bytes =
    let all : sum (summed bytes) ≡ sum bytes + checksum bytes = sum_by_push (λ x. x) bytes (checksum bytes) in
    eq-eqb _ _ (omega (arith, all))

written-formed : (type address : ℕ) (bytes : List ℕ) → bytes_of (pairs (summed (unsummed type address bytes))) ≡ summed (unsummed type address bytes)
    → well_formed (written_line type address bytes) ≡ true
unfolding well_formed
written-formed type address bytes back =
    let whole = summed (unsummed type address bytes) in
    let n = length-append (unsummed type address bytes) (checksum (unsummed type address bytes) ∷ []) in
    let m = pairs-length whole in
    let size : length (written_line type address bytes) ≡ 1 + 2 * (length bytes + 5) = omega (arith, m, n) in
    rw (pairs-digits whole, back) (eq-eqb _ _ size)

pub written-record : (type address : ℕ) (bytes : List ℕ) → type < 256 → length bytes < 256 → Small bytes
    → record_of (written_line type address bytes) ≡ typed type (summed (unsummed type address bytes))
unfolding record_of
written-record type address bytes t n s =
    let whole = summed (unsummed type address bytes) in
    let back : bytes_of (pairs whole) ≡ whole = pairs-bytes whole (summed-small type address bytes t n s) in
    rw (written-formed type address bytes back, back, summed-sums (unsummed type address bytes)) refl

-- its line is the first of a text that it begins
pub written-lines : (type address : ℕ) (bytes text : List ℕ) → type < 256 → length bytes < 256 → Small bytes
    → records (record_line type address bytes ++ text) ≡ typed type (summed (unsummed type address bytes)) ∷ records text
unfolding record_line
written-lines type address bytes text t n s =
    let digits = pairs (summed (unsummed type address bytes)) in
    let cut : record_line type address bytes ++ text ≡ (colon ∷ digits) ++ (line_feed ∷ text) = ap (λ x. colon ∷ x) (append_assoc digits (line_feed ∷ []) text) in
    let first = plain-lines colon digits (line_feed ∷ text) text (refl, refl) (pairs-digits (summed (unsummed type address bytes))) (by_line_feed text) in
    ap records cut ∙ ap (map record_of) first ∙ ap (λ r. r ∷ records text) (written-record type address bytes t n s)

pub data-back : (address : ℕ) (bytes text : List ℕ) → address < 65536 → length bytes < 256 → Small bytes
    → records (record_line 0 address bytes ++ text) ≡ Bytes address bytes ∷ records text
data-back address bytes text a n s =
    let there : address / 256 % 256 * 256 + address % 256 ≡ address = omega (arith, a) in
    let held : take (length bytes) (bytes ++ checksum (unsummed 0 address bytes) ∷ []) ≡ bytes = take_at bytes (checksum (unsummed 0 address bytes) ∷ []) (length bytes) refl in
    written-lines 0 address bytes text (omega arith) n s ∙ ap (λ r. r ∷ records text) (rw (there, held) refl)

pub end-back : (text : List ℕ) → records (record_line 1 0 [] ++ text) ≡ End ∷ records text
end-back text = written-lines 1 0 [] text (omega arith) (omega arith) (tt {0})
