-- Pairs put one after the other; how long a line is. Assumes nothing.
use mathlib.Core.Path.{◌≡◌, refl, sym, ap, ◌∙◌}
use mathlib.Core.List.{List, [], ◌∷◌, ◌++◌}
use Prim.Native.Nat.{ℕ, ◌+◌, ◌-◌, ◌*◌, ◌/◌, ◌%◌, ◌<◌, ◌≤◌}
use native.Mathlib.Omega.{arith}
use lib.ListN.{length, length-append, take, get_or}
use Rattle.std.specs.Prelude.{sum}
use Rattle.std.proofs.lemmas.List.{append_assoc, append-nil, take_more}
use Rattle.std.proofs.lemmas.List.Sums.{sum_by-append}
use Rattle.text.specs.Text.{hex_digits}
use Rattle.text.specs.Output.{put}
use Rattle.text.proofs.Digits.{hex-length}
use Rattle.text.proofs.Put.{put-append, put-fits}
use Rattle.intel_hex.specs.Lines.{line_feed}
use Rattle.intel_hex.specs.Record.{colon}
use Rattle.intel_hex.specs.Writer.{pairs, checksum, unsummed, summed, record_line}

pub pairs-append : (bytes more : List ℕ) → pairs (bytes ++ more) ≡ pairs bytes ++ pairs more
unfolding pairs
pairs-append [] more = refl
pairs-append (byte ∷ bytes) more = ap (λ t. hex_digits 2 byte ++ t) (pairs-append bytes more) ∙ sym (append_assoc (hex_digits 2 byte) (pairs bytes) (pairs more))

pairs-one : (byte : ℕ) → pairs (byte ∷ []) ≡ hex_digits 2 byte
unfolding pairs
pairs-one byte = append-nil (hex_digits 2 byte)

-- one more byte of a list is put
pub put_more : (text bytes : List ℕ) (i byte : ℕ) → i < length bytes → byte ≡ get_or bytes i 0
    → put (put text (pairs (take i bytes))) (hex_digits 2 byte) ≡ put text (pairs (take (i + 1) bytes))
put_more text bytes i byte h is =
    let more : take (i + 1) bytes ≡ take i bytes ++ byte ∷ [] = take_more bytes i 0 h ∙ ap (λ b. take i bytes ++ b ∷ []) (sym is) in
    sym (put-append text (pairs (take i bytes)) (hex_digits 2 byte))
    ∙ ap (put text) (ap (λ t. pairs (take i bytes) ++ t) (sym (pairs-one byte)) ∙ sym (pairs-append (take i bytes) (byte ∷ [])) ∙ ap pairs (sym more))

pub pairs-length : (bytes : List ℕ) → length (pairs bytes) ≡ 2 * length bytes
unfolding pairs
pairs-length [] = refl
pairs-length (byte ∷ bytes) =
    let one = hex-length 2 byte in
    let more = pairs-length bytes in
    length-append (hex_digits 2 byte) (pairs bytes) ∙ omega (arith, one, more)

-- five pieces put into an empty text with room for them
put-five : (a b c d e : List ℕ) → length a + length b + length c + length d + length e ≤ 512
    → put (put (put (put (put [] a) b) c) d) e ≡ a ++ b ++ c ++ d ++ e
put-five a b c d e room =
    let n1 = length-append a b in
    let n2 = length-append (a ++ b) c in
    let n3 = length-append (a ++ b ++ c) d in
    let n4 = length-append (a ++ b ++ c ++ d) e in
    rw (← put-append [] a b, ← put-append [] (a ++ b) c, ← put-append [] (a ++ b ++ c) d, ← put-append [] (a ++ b ++ c ++ d) e)
    (put-fits [] (a ++ b ++ c ++ d ++ e) (omega (arith, n1, n2, n3, n4, room)))

-- a record's pieces, put one after the other
pub record-put : (kind address byte : ℕ) (bytes head : List ℕ) → length bytes ≤ 16
    → head ≡ length bytes ∷ address / 256 % 256 ∷ address % 256 ∷ kind ∷ [] → byte ≡ checksum (head ++ bytes)
    → put (put (put (put (put [] (colon ∷ [])) (pairs head)) (pairs bytes)) (pairs (byte ∷ []))) (line_feed ∷ []) ≡ record_line kind address bytes
unfolding record_line
record-put kind address byte bytes head short is sums =
    let four : length head ≡ 4 = ap length is in
    let n1 = pairs-length head in
    let n2 = pairs-length bytes in
    let n3 = pairs-length (byte ∷ []) in
    let whole : summed (unsummed kind address bytes) ≡ head ++ bytes ++ (byte ∷ []) =
    rw (sums, is) refl in
    put-five (colon ∷ []) (pairs head) (pairs bytes) (pairs (byte ∷ [])) (line_feed ∷ []) (omega (arith, n1, n2, n3, four, short))
    ∙ ap (λ t. colon ∷ (t ++ (line_feed ∷ [])))
    (ap (λ t. t ++ pairs (byte ∷ [])) (sym (pairs-append head bytes)) ∙ sym (pairs-append (head ++ bytes) (byte ∷ [])) ∙ ap pairs (sym whole))

-- the texts between
pub record-built : {t0 t1 t2 t3 t4 t5 head : List ℕ} {byte : ℕ} (kind address : ℕ) (bytes : List ℕ) → t0 ≡ [] → t1 ≡ put t0 (colon ∷ []) → t2 ≡ put t1 (pairs head)
    → t3 ≡ put t2 (pairs bytes) → t4 ≡ put t3 (pairs (byte ∷ [])) → t5 ≡ put t4 (line_feed ∷ []) → length bytes ≤ 16
    → head ≡ length bytes ∷ address / 256 % 256 ∷ address % 256 ∷ kind ∷ [] → byte ≡ checksum (head ++ bytes) → t5 ≡ record_line kind address bytes
record-built {head = head} {byte = byte} kind address bytes e0 e1 e2 e3 e4 e5 short is sums =
    rw (e5, e4, e3, e2, e1, e0) (record-put kind address byte bytes head short is sums)

pub sum-built : (head bytes : List ℕ) (s t : ℕ) → s ≡ sum head % 256 → t ≡ sum bytes % 256 → (0 + (256 - (s + t) % 256)) % 256 ≡ checksum (head ++ bytes)
sum-built head bytes s t e f =
    let all : sum (head ++ bytes) ≡ sum head + sum bytes = sum_by-append (λ x. x) head bytes in
    omega (arith, e, f, all)

-- ---- how long a line is

pub record-length : (kind address : ℕ) (bytes : List ℕ) → length (record_line kind address bytes) ≡ 12 + 2 * length bytes
unfolding record_line
record-length kind address bytes =
    let n1 = pairs-length (summed (unsummed kind address bytes)) in
    let n2 = length-append (unsummed kind address bytes) (checksum (unsummed kind address bytes) ∷ []) in
    let n3 = length-append (pairs (summed (unsummed kind address bytes))) (line_feed ∷ []) in
    omega (arith, n1, n2, n3)
