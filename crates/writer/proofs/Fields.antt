-- The laws of packed fields: a word is packed of fields exactly where it has them.
-- Assumes nothing.
use mathlib.Core.Path.{◌≡◌, refl, sym, ap, ◌∙◌, subst}
use mathlib.Core.Bool.{Bool, true, false, ◌&&◌, and-eq-true_iff}
use mathlib.Core.List.{List, [], ◌∷◌}
use mathlib.Core.Logic.{◌↔◌}
use Prim.Native.Nat.{ℕ, ◌+◌, ◌-◌, ◌*◌, ◌/◌, ◌%◌, ◌^◌, ◌≤◌, ◌<◌}
use native.Mathlib.Nat.{mod-lt, div-eq_of_lt, div-one, sub-add_cancel, sub-le, le_trans, lt_of_lt_of_le}
use native.Mathlib.Omega.{arith}
use lib.Arith.{digits_lt}
use lib.Dec.{ltb, leb, eqb}
use lib.Pow.{pow_pos, pow-add, pow_mono, split, high, low, shr-shr, shr_lt}
use borrow.Author.Tests.{lt-ltb, ltb-true, leb-true, eqb-true}
use Rattle.std.specs.Prelude.{Result, Ok, Err}
use Rattle.bits.specs.Bits.{field}
use Rattle.bits.proofs.Fields.{field_lt}
use Rattle.writer.specs.Fields.{allow, put, packed, Field}
use Rattle.writer.specs.declared.NoWord.{NoWord}

-- v >> k is 0 where v has at most k bits, and only there
pub shr-none : (v k : ℕ) → v / 2 ^ k ≡ 0 → v < 2 ^ k
shr-none v k e = omega (arith, split v k, mod-lt v (pow_pos k), ap (λ (x : ℕ). x * 2 ^ k) e)

pub shr-some : (v k : ℕ) → (v / 2 ^ k ≡ 0 → ⊥) → ltb v (2 ^ k) ≡ false
shr-some v k n = go (ltb v (2 ^ k)) refl
  where
    go : (b : Bool) → ltb v (2 ^ k) ≡ b → ltb v (2 ^ k) ≡ false
    go true e = absurd (n (div-eq_of_lt (ltb-true v (2 ^ k) e)))
    go false e = e

-- a field behind a word that has room for it
pub room : (w k v : ℕ) → k ≤ 32 → w < 2 ^ (32 - k) → v < 2 ^ k → w * 2 ^ k + v < 2 ^ 32
room w k v h hw hv =
    subst (λ (x : ℕ). w * 2 ^ k + v < x) (sym (pow-add 2 (32 - k) k) ∙ ap (λ (x : ℕ). 2 ^ x) (sub-add_cancel h)) (digits_lt hw hv)

-- what is refused stays refused
pub refused : (fs : List Field) (e : NoWord) → packed (Err e) fs ≡ Err e
unfolding put
refused [] e = refl
refused (f ∷ fs) e = refused fs e

-- ---- fields from bit top down

-- their widths come to top
abbrev pub fill : ℕ → List Field → Bool
fill top [] = eqb top 0
fill top (f ∷ fs) = leb f.width top && fill (top - f.width) fs

-- w has them
abbrev pub Reads : ℕ → ℕ → List Field → Type 0
Reads w top [] = Unit {0}
Reads w top (f ∷ fs) = (field w (top - f.width) f.width ≡ f.value) × Reads w (top - f.width) fs

-- what is left above a field
above : (w top k : ℕ) → k ≤ top → w / 2 ^ (top - k) / 2 ^ k ≡ w / 2 ^ top
above w top k l = shr-shr w (top - k) k ∙ ap (λ (x : ℕ). w / 2 ^ x) (sub-add_cancel l)

-- ---- what is packed of a word's fields is the word

-- one field more of w
put-field : (w top k : ℕ) → w < 2 ^ 32 → top ≤ 32 → k ≤ top → put (Ok (w / 2 ^ top)) k (field w (top - k) k) ≡ Ok (w / 2 ^ (top - k))
unfolding put field
put-field w top k h t l =
    let g : w / 2 ^ top < 2 ^ (32 - top) = shr_lt (32 - top) top (subst (λ (x : ℕ). w < 2 ^ x) (sym (sub-add_cancel t)) h) in
    let m : w / 2 ^ top < 2 ^ (32 - k) = lt_of_lt_of_le g (pow_mono (omega arith)) in
    simp (lt-ltb _ _ (field_lt w (top - k) k), lt-ltb _ _ m)
    (ap Ok (ap (λ (x : ℕ). x * 2 ^ k + field w (top - k) k) (sym (above w top k l)) ∙ split (w / 2 ^ (top - k)) k))

packs : (fs : List Field) (w top : ℕ) → w < 2 ^ 32 → top ≤ 32 → fill top fs ≡ true → Reads w top fs → packed (Ok (w / 2 ^ top)) fs ≡ Ok w
packs [] w top h t l r = ap Ok (rw (eqb-true top 0 l) (div-one w))
packs (f ∷ fs) w top h t l r =
    let p = (and-eq-true_iff _ _).0 l in
    ap (λ (m : Result ℕ NoWord). packed m fs) (rw r.0 at (put-field w top f.width h t (leb-true _ _ p.0)))
    ∙ packs fs w (top - f.width) h (le_trans (sub-le top f.width) t) p.1 r.1

-- ---- the fields of what is packed are those that went in

pub allowed : (b : Bool) (m : Result ℕ NoWord) (w : ℕ) → allow b m ≡ Ok w → (b ≡ true) × (m ≡ Ok w)
allowed true m w e = (refl, e)
allowed false m w e = (cc, cc)

put_back : (m : Result ℕ NoWord) (k v w : ℕ) → put m k v ≡ Ok w → (m ≡ Ok (w / 2 ^ k)) × (w % 2 ^ k ≡ v)
unfolding put
put_back (Err r) k v w e = (cc, cc)
put_back (Ok a) k v w e =
    let p = allowed (ltb v (2 ^ k)) _ w e in
    let h = ltb-true v (2 ^ k) p.0 in
    let s : a * 2 ^ k + v ≡ w = let q = (allowed (ltb a (2 ^ (32 - k))) _ w p.1).1 in cc in
    (ap Ok (rw s at (sym (high a k h))), rw s at (low a k h))

unpacks : (fs : List Field) (m : Result ℕ NoWord) (w top : ℕ) → fill top fs ≡ true → packed m fs ≡ Ok w → (m ≡ Ok (w / 2 ^ top)) × Reads w top fs
unfolding field
unpacks [] m w top l e = (e ∙ ap Ok (sym (rw (eqb-true top 0 l) (div-one w))), tt)
unpacks (f ∷ fs) m w top l e =
    let p = (and-eq-true_iff _ _).0 l in
    let u = unpacks fs (put m f.width f.value) w (top - f.width) p.1 e in
    let b = put_back m f.width f.value _ u.0 in
    (b.0 ∙ ap Ok (above w top f.width (leb-true _ _ p.0)), (b.1, u.1))

-- ---- both, of a whole word

pub packed-iff : (fs : List Field) (w : ℕ) → fill 32 fs ≡ true → packed (Ok 0) fs ≡ Ok w ↔ (w < 2 ^ 32) × Reads w 32 fs
packed-iff fs w l = (
  λ e. let u = unpacks fs (Ok 0) w 32 l e in let z : w / 2 ^ 32 ≡ 0 = cc in (shr-none w 32 z, u.1),
  λ p. rw (div-eq_of_lt p.0) at (packs fs w 32 p.0 (omega arith) l p.1),
)
