-- The line up to where its count says is the first line of the text, or the first line is unsound. Assumes nothing.
use mathlib.Core.Path.{◌≡◌, refl, sym, ap, subst, ◌∙◌}
use mathlib.Core.Bool.{Bool, true, false, ◌&&◌, false≢true}
use mathlib.Core.List.{List, [], ◌∷◌, ◌++◌, map}
use Prim.Native.Nat.{ℕ, suc, ◌+◌, ◌-◌, ◌*◌, ◌<◌, ◌≤◌}
use native.Mathlib.Omega.{arith}
use borrow.Author.Tests.{eqb-true, eq-eqb, ne_eqb, leb-true, le-leb}
use lib.Dec.{eqb, leb}
use lib.ListN.{length, length-append, length-take, take, drop, get_or}
use Rattle.std.proofs.lemmas.List.{get_or_append_left, take-append-drop, take_at, drop_at, drop-drop}
use Rattle.bits.specs.Choice.{pick}
use Rattle.intel_hex.specs.Lines.{line_feed, carriage_return, lines}
use Rattle.intel_hex.specs.Record.{Unsound, colon, is_digit, all_digits, bytes_of, record_bytes, count_in, well_formed, record_of}
use Rattle.intel_hex.specs.Reader.{records}
use Rattle.intel_hex.specs.Walk.{meaning, counted_record, begins, count_at, end_at, Leads}
use Rattle.intel_hex.proofs.FirstLine.{Ended, by_the_text, by_line_feed, by_both, Split, split, both, plain-lines}

-- ---- a line that is well formed, by its first three bytes

pub record Formed (line : List ℕ) : Type 0 where
  pub starts : get_or line 0 0 ≡ colon
  pub digits : all_digits (drop 1 line) ≡ true
  pub long : length line ≡ 11 + 2 * count_at line

count-is : (line : List ℕ) → 3 ≤ length line → count_in (record_bytes line) ≡ count_at line
unfolding bytes_of
count-is [] e = absurd (omega (arith, e))
count-is (a ∷ []) e = absurd (omega (arith, e))
count-is (a ∷ h ∷ []) e = absurd (omega (arith, e))
count-is (a ∷ h ∷ l ∷ line) e = refl

formed : (line : List ℕ) → well_formed line ≡ true → Formed line
unfolding well_formed
formed line e =
    let parts = both (eqb (get_or line 0 0) colon) _ e in
    let others = both (all_digits (drop 1 line)) _ parts.1 in
    let size : length line ≡ 1 + 2 * (count_in (record_bytes line) + 5) = eqb-true _ _ others.1 in
    let count = count-is line (omega (arith, size)) in
    record { starts = eqb-true _ _ parts.0; digits = others.0; long = omega (arith, size, count) }

well : (line : List ℕ) → Formed line → well_formed line ≡ true
unfolding well_formed
well line f =
    let count = count-is line (omega (arith, f.long)) in
    let size : length line ≡ 1 + 2 * (count_in (record_bytes line) + 5) = omega (arith, f.long, count) in
    rw (eq-eqb _ _ f.starts, f.digits, eq-eqb _ _ size) refl

-- the two digits of its count
count-digits : (line : List ℕ) → Formed line → (is_digit (get_or line 1 0) && is_digit (get_or line 2 0)) ≡ true
count-digits [] f = absurd (omega (arith, f.long))
count-digits (a ∷ []) f = absurd (omega (arith, f.long))
count-digits (a ∷ h ∷ []) f = absurd (omega (arith, f.long))
count-digits (a ∷ h ∷ l ∷ line) f =
    let high = both (is_digit h) (is_digit l && all_digits line) f.digits in
    let low = both (is_digit l) (all_digits line) high.1 in
    rw (high.0, low.0) refl

-- ---- the first line of a text, if it is well formed

same : (text : List ℕ) (s : Split text) → Formed s.first → (k : ℕ) → k < 3 → get_or text k 0 ≡ get_or s.first k 0
same text s f k h = ap (λ t. get_or t k 0) s.is ∙ get_or_append_left s.first s.left 0 k (omega (arith, f.long, h))

same-count : (text : List ℕ) (s : Split text) → Formed s.first → count_at text ≡ count_at s.first
same-count text s f = rw (same text s f 1 (omega arith), same text s f 2 (omega arith)) refl

text-length : (text : List ℕ) (s : Split text) → length text ≡ length s.first + length s.left
text-length text s = ap length s.is ∙ length-append s.first s.left

pub does-begin : (text : List ℕ) (s : Split text) → Formed s.first → begins text ≡ true
unfolding begins
does-begin text s f =
    let n = text-length text s in
    let e0 = same text s f 0 (omega arith) ∙ f.starts in
    let e1 = same text s f 1 (omega arith) in
    let e2 = same text s f 2 (omega arith) in
    rw (le-leb 3 (length text) (omega (arith, n, f.long)), eq-eqb _ _ e0, e1, e2, count-digits s.first f) refl

pub as-long : (text : List ℕ) (s : Split text) → Formed s.first → length s.first ≡ 11 + 2 * count_at text
as-long text s f = f.long ∙ ap (λ n. 11 + 2 * n) (sym (same-count text s f))

pub fits : (text : List ℕ) (s : Split text) → Formed s.first → 11 + 2 * count_at text ≤ length text
fits text s f =
    let n = text-length text s in
    let long = as-long text s f in
    omega (arith, n, long)

-- where bytes are left
end-some : (byte : ℕ) (left : List ℕ)
    → end_at (byte ∷ left) ≡ pick (eqb byte line_feed) 1 (pick (eqb byte carriage_return && eqb (get_or left 0 0) line_feed) 2 3)
unfolding end_at
end-some byte left = rw (ne_eqb (length (byte ∷ left)) 0 (λ e. omega (arith, e))) refl

ends : (left rest : List ℕ) → Ended left rest → end_at left ≡ 3 → ⊥
unfolding end_at
ends _ _ by_the_text e = let n : 0 ≡ 3 = e in omega (arith, n)
ends _ _ (by_line_feed rest) e = let n : 1 ≡ 3 = sym (end-some line_feed rest) ∙ e in omega (arith, n)
ends _ _ (by_both rest) e = let n : 2 ≡ 3 = sym (end-some carriage_return (line_feed ∷ rest)) ∙ e in omega (arith, n)

pub does-end : (text : List ℕ) (s : Split text) → Formed s.first → end_at (drop (11 + 2 * count_at text) text) ≡ 3 → ⊥
does-end text s f e =
    let left : drop (11 + 2 * count_at text) text ≡ s.left = ap (drop (11 + 2 * count_at text)) s.is ∙ drop_at s.first s.left _ (as-long text s f) in
    ends s.left s.rest s.ended (ap end_at (sym left) ∙ e)

-- ---- what the first line says

pub refused-line : (text : List ℕ) (s : Split text) → (Formed s.first → ⊥) → Leads text Unsound 0
unfolding record_of
refused-line text s not_formed = (map record_of (lines s.rest), ap (map record_of) s.lined ∙ rw (not-well (well_formed s.first) refl) refl, λ ne. absurd (ne refl))
  where
    not-well : (b : Bool) → well_formed s.first ≡ b → well_formed s.first ≡ false
    not-well true e = absurd (not_formed (formed s.first e))
    not-well false e = e

-- the end that a test found
end-is : (left : List ℕ) (n : ℕ) → end_at left ≡ n → n ≤ 2 → Ended left (drop n left)
unfolding end_at
end-is [] n e h = subst (λ k. Ended [] (drop k [])) e by_the_text
end-is (byte ∷ left) n e h = by-lf (eqb byte line_feed) refl
  where
    told : pick (eqb byte line_feed) 1 (pick (eqb byte carriage_return && eqb (get_or left 0 0) line_feed) 2 3) ≡ n
    told = sym (end-some byte left) ∙ e

    by-both : (more : List ℕ) → byte ≡ carriage_return → get_or more 0 0 ≡ line_feed → Ended (byte ∷ more) (drop 2 (byte ∷ more))
    by-both [] c l = absurd (omega (arith, l))
    by-both (next ∷ more) c l =
        subst (λ b. Ended (b ∷ next ∷ more) more) (sym c) (subst (λ b. Ended (carriage_return ∷ b ∷ more) more) (sym l) (by_both more))

    by-cr : (b : Bool) → (eqb byte carriage_return && eqb (get_or left 0 0) line_feed) ≡ b → eqb byte line_feed ≡ false → Ended (byte ∷ left) (drop n (byte ∷ left))
    by-cr true c l =
        let ends = both (eqb byte carriage_return) _ c in
        let two : 2 ≡ n = rw (l, c) at told in
        subst (λ k. Ended (byte ∷ left) (drop k (byte ∷ left))) two (by-both left (eqb-true _ _ ends.0) (eqb-true _ _ ends.1))
    by-cr false c l =
        let three : 3 ≡ n = rw (l, c) at told in
        absurd (omega (arith, three, h))

    by-lf : (b : Bool) → eqb byte line_feed ≡ b → Ended (byte ∷ left) (drop n (byte ∷ left))
    by-lf true l =
        let one : 1 ≡ n = rw l at told in
        subst (λ k. Ended (byte ∷ left) (drop k (byte ∷ left))) one (subst (λ b. Ended (b ∷ left) left) (sym (eqb-true _ _ l)) (by_line_feed left))
    by-lf false l = by-cr (eqb byte carriage_return && eqb (get_or left 0 0) line_feed) refl l

-- three bytes, then the others
head-of : (text : List ℕ) (n : ℕ) → 3 ≤ n → n ≤ length text
    → take n text ≡ get_or text 0 0 ∷ get_or text 1 0 ∷ get_or text 2 0 ∷ take (n - 3) (drop 3 text)
head-of [] n a b = absurd (omega (arith, a, b))
head-of (x ∷ []) n a b = absurd (omega (arith, a, b))
head-of (x ∷ y ∷ []) n a b = absurd (omega (arith, a, b))
head-of (x ∷ y ∷ z ∷ text) n a b =
    let more : n ≡ suc (suc (suc (n - 3))) = omega (arith, a) in
    ap (λ k. take k (x ∷ y ∷ z ∷ text)) more

pub begun : (text : List ℕ) → begins text ≡ true → (get_or text 0 0 ≡ colon) × (is_digit (get_or text 1 0) ≡ true) × (is_digit (get_or text 2 0) ≡ true) × (3 ≤ length text)
unfolding begins
begun text e =
    let parts = both (leb 3 (length text)) _ e in
    let first = both (eqb (get_or text 0 0) colon) _ parts.1 in
    let digits = both (is_digit (get_or text 1 0)) _ first.1 in
    (eqb-true _ _ first.0, digits.0, digits.1, leb-true 3 (length text) parts.0)

-- the line as far as its count goes, and the digits behind the count
module _ (text : List ℕ) (count n : ℕ) (b : begins text ≡ true) (counts : count ≡ count_at text) (long : n ≡ 11 + 2 * count) (room : n ≤ length text) where
  abbrev digits : List ℕ
  digits = take (n - 3) (drop 3 text)

  abbrev line : List ℕ
  line = colon ∷ get_or text 1 0 ∷ get_or text 2 0 ∷ digits

  line-is : take n text ≡ line
  line-is = head-of text n (omega (arith, long)) room ∙ ap (λ x. x ∷ get_or text 1 0 ∷ get_or text 2 0 ∷ digits) (begun text b).0

  line-length : length line ≡ n
  line-length = ap length (sym line-is) ∙ length-take n text ∙ omega (arith, room)

  all-digits : all_digits (drop 1 line) ≡ all_digits digits
  all-digits = rw ((begun text b).1, (begun text b).2) refl

  formed-line : all_digits digits ≡ true → Formed line
  formed-line all = record { starts = refl; digits = all-digits ∙ all; long = omega (arith, line-length, long, counts) }

  says : all_digits digits ≡ true → record_of line ≡ counted_record count digits
  unfolding record_of bytes_of meaning
  says all = rw (well line (formed-line all), all, counts) refl

  -- it is the first line, where all behind the colon are digits
  first-lines : (e : ℕ) → end_at (drop n text) ≡ e → e ≤ 2 → all_digits digits ≡ true → lines text ≡ line ∷ lines (drop (n + e) text)
  first-lines e end short all =
      let ended : Ended (drop n text) (drop (n + e) text) = subst (λ x. Ended (drop n text) x) (drop-drop e n text) (end-is (drop n text) e end short) in
      ap lines (sym (take-append-drop n text)) ∙ ap (λ x. lines (x ++ drop n text)) line-is
      ∙ plain-lines colon (drop 1 line) (drop n text) (drop (n + e) text) (refl, refl) (all-digits ∙ all) ended

  sound-line : (e : ℕ) → end_at (drop n text) ≡ e → e ≤ 2 → all_digits digits ≡ true → Leads text (counted_record count digits) (n + e)
  sound-line e end short all =
      (records (drop (n + e) text), ap (map record_of) (first-lines e end short all) ∙ ap (λ r. r ∷ records (drop (n + e) text)) (says all), λ ne. refl)

  -- if not, the first line is another
  other-line : (s : Split text) → all_digits digits ≡ false → Formed s.first → ⊥
  other-line s none f =
      let size : length s.first ≡ n = as-long text s f ∙ omega (arith, long, counts) in
      let first : s.first ≡ line = sym (take_at s.first s.left n size) ∙ ap (take n) (sym s.is) ∙ line-is in
      false≢true (sym none ∙ sym all-digits ∙ ap (λ x. all_digits (drop 1 x)) (sym first) ∙ f.digits)

  unsound-line : (s : Split text) (e : ℕ) → all_digits digits ≡ false → Leads text (counted_record count digits) (n + e)
  unsound-line s e none =
      let r = refused-line text s (other-line s none) in
      let unsound : counted_record count digits ≡ Unsound = rw none refl in
      (r.0, r.1 ∙ ap (λ x. x ∷ r.0) (sym unsound), λ ne. absurd (ne unsound))

pub found : (text : List ℕ) (count n e : ℕ) → begins text ≡ true → count ≡ count_at text → n ≡ 11 + 2 * count → n ≤ length text
    → end_at (drop n text) ≡ e → e ≤ 2 → Leads text (counted_record count (take (n - 3) (drop 3 text))) (n + e)
found [] count n e b counts long room end short = absurd (omega (arith, long, room))
found (byte ∷ text) count n e b counts long room end short = go (all_digits (take (n - 3) (drop 3 (byte ∷ text)))) refl
  where
    go : (t : Bool) → all_digits (take (n - 3) (drop 3 (byte ∷ text))) ≡ t → Leads (byte ∷ text) (counted_record count (take (n - 3) (drop 3 (byte ∷ text)))) (n + e)
    go true all = sound-line (byte ∷ text) count n b counts long room e end short all
    go false none = unsound-line (byte ∷ text) count n b counts long room (split byte text) e none

pub refused-text : (text : List ℕ) → ((s : Split text) → Formed s.first → ⊥) → (text ≡ [] → ⊥) → Leads text Unsound 0
refused-text [] not_formed some = absurd (some refl)
refused-text (byte ∷ text) not_formed some = refused-line (byte ∷ text) (split byte text) (not_formed (split byte text))

-- the count, decoded
pub count-decoded : (text into : List ℕ) → 3 ≤ length text → get_or text 0 0 ≡ colon → all_digits (take 2 (drop 1 text)) ≡ true
    → into ≡ bytes_of (take 2 (drop 1 text)) → (begins text ≡ true) × (get_or into 0 0 ≡ count_at text)
unfolding begins bytes_of
count-decoded [] into long first all held = absurd (omega (arith, long))
count-decoded (a ∷ []) into long first all held = absurd (omega (arith, long))
count-decoded (a ∷ h ∷ []) into long first all held = absurd (omega (arith, long))
count-decoded (a ∷ h ∷ l ∷ text) into long first all held =
    let high = both (is_digit h) (is_digit l && true) all in
    let low = both (is_digit l) true high.1 in
    (rw (le-leb 3 (length (a ∷ h ∷ l ∷ text)) long, eq-eqb a colon first, high.0, low.0) refl, ap (λ x. get_or x 0 0) held)
