-- The first line of a text: what it is and what follows its end, and that a line of digits goes up to where its count says. Assumes nothing.
use mathlib.Core.Path.{◌≡◌, refl, sym, ap, subst, ◌∙◌}
use mathlib.Core.Bool.{Bool, true, false, ◌&&◌, false≢true}
use mathlib.Core.List.{List, [], ◌∷◌, ◌++◌}
use Prim.Native.Nat.{ℕ}
use borrow.Author.Tests.{eqb-true}
use lib.Dec.{eqb}
use Rattle.text.specs.Digit.{counted as counted_from}
use Rattle.intel_hex.specs.Lines.{line_feed, carriage_return, of_the_end, lines}
use Rattle.intel_hex.specs.Record.{is_digit, all_digits}

-- the end of a line stands at the beginning of a text, and the lines behind it in the other
pub data Ended : List ℕ → List ℕ → Type 0 where
  by_the_text : Ended [] []
  by_line_feed : (rest : List ℕ) → Ended (line_feed ∷ rest) rest
  by_both : (rest : List ℕ) → Ended (carriage_return ∷ line_feed ∷ rest) rest

-- a text as its first line, the end of that, and the lines behind
pub record Split (text : List ℕ) : Type 0 where
  pub first : List ℕ
  pub left : List ℕ
  pub rest : List ℕ
  pub is : text ≡ first ++ left
  pub ended : Ended left rest
  pub lined : lines text ≡ first ∷ lines rest

pub both : (a b : Bool) → (a && b) ≡ true → (a ≡ true) × (b ≡ true)
both true b e = (refl, e)
both false b e = absurd cc

-- a line feed ends an empty line
at-once : (text : List ℕ) → Split (line_feed ∷ text)
unfolding lines
at-once text = record { first = []; left = line_feed ∷ text; rest = text; is = refl; ended = by_line_feed text; lined = refl }

-- so does one behind a carriage return
after-return : (text : List ℕ) → Split (carriage_return ∷ line_feed ∷ text)
unfolding lines
after-return text =
    record { first = []; left = carriage_return ∷ line_feed ∷ text; rest = text; is = refl; ended = by_both text; lined = refl }

-- a byte that is of no end is one of the first line
last-byte : (byte : ℕ) → eqb byte line_feed ≡ false → of_the_end byte [] ≡ false → Split (byte ∷ [])
unfolding lines
last-byte byte l o = record { first = byte ∷ []; left = []; rest = []; is = refl; ended = by_the_text; lined = rw (l, o) refl }

one-more : (byte : ℕ) (text : List ℕ) → Split text → eqb byte line_feed ≡ false → of_the_end byte text ≡ false → Split (byte ∷ text)
unfolding lines
one-more byte text s l o =
    record {
      first = byte ∷ s.first;
      left = s.left;
      rest = s.rest;
      is = ap (λ t. byte ∷ t) s.is;
      ended = s.ended;
      lined = rw (l, o, s.lined) refl;
    }

pub split : (byte : ℕ) (text : List ℕ) → Split (byte ∷ text)
split byte [] = by-lf (eqb byte line_feed) refl
  where
    none : (a : Bool) → (a && false) ≡ false
    none true = refl
    none false = refl

    by-lf : (b : Bool) → eqb byte line_feed ≡ b → Split (byte ∷ [])
    by-lf true e = subst (λ b. Split (b ∷ [])) (sym (eqb-true byte line_feed e)) (at-once [])
    by-lf false e = last-byte byte e (none (eqb byte carriage_return))
split byte (next ∷ more) = by-lf (eqb byte line_feed) refl (split next more)
  where
    by-cr : (b : Bool) → of_the_end byte (next ∷ more) ≡ b → eqb byte line_feed ≡ false → Split (next ∷ more) → Split (byte ∷ next ∷ more)
    by-cr true e l s =
        let ends = both (eqb byte carriage_return) (eqb next line_feed) e in
        subst (λ b. Split (b ∷ next ∷ more)) (sym (eqb-true byte carriage_return ends.0))
        (subst (λ n. Split (carriage_return ∷ n ∷ more)) (sym (eqb-true next line_feed ends.1)) (after-return more))
    by-cr false e l s = one-more byte (next ∷ more) s l e

    by-lf : (b : Bool) → eqb byte line_feed ≡ b → Split (next ∷ more) → Split (byte ∷ next ∷ more)
    by-lf true e s = subst (λ b. Split (b ∷ next ∷ more)) (sym (eqb-true byte line_feed e)) (at-once (next ∷ more))
    by-lf false e s = by-cr (of_the_end byte (next ∷ more)) refl e s

-- ---- a line of bytes that are of no end

-- a byte that is never of a line's end
abbrev pub Plain : ℕ → Type 0
Plain byte = (eqb byte line_feed ≡ false) × (eqb byte carriage_return ≡ false)

pub plain-digit : (byte : ℕ) → is_digit byte ≡ true → Plain byte
unfolding counted_from
plain-digit byte e = (go line_feed refl (eqb byte line_feed) refl, go carriage_return refl (eqb byte carriage_return) refl)
  where
    go : (n : ℕ) → is_digit n ≡ false → (b : Bool) → eqb byte n ≡ b → eqb byte n ≡ false
    go n none true same = absurd (false≢true (sym none ∙ ap is_digit (sym (eqb-true byte n same)) ∙ e))
    go n none false same = same

-- the lines of what is left of a line's last byte
end-lines : (byte : ℕ) (left rest : List ℕ) → Plain byte → Ended left rest → lines (byte ∷ left) ≡ (byte ∷ []) ∷ lines rest
unfolding lines
end-lines byte _ _ p by_the_text = rw (p.0, p.1) refl
end-lines byte _ _ p (by_line_feed rest) = rw (p.0, p.1) refl
end-lines byte _ _ p (by_both rest) = rw (p.0, p.1) refl

pub plain-lines : (byte : ℕ) (digits left rest : List ℕ) → Plain byte → all_digits digits ≡ true → Ended left rest
    → lines (byte ∷ digits ++ left) ≡ (byte ∷ digits) ∷ lines rest
unfolding lines
plain-lines byte [] left rest p d e = end-lines byte left rest p e
plain-lines byte (digit ∷ digits) left rest p d e =
    let digit-first = both (is_digit digit) (all_digits digits) d in
    rw (p.0, p.1, plain-lines digit digits left rest (plain-digit digit digit-first.0) digit-first.1 e) refl
