-- A fold over the fields of a slice, which breaks off where one is refused, is the fields packed.
-- Assumes nothing.
use Rattle.std.proofs.Common.{◌≡◌, ◌<◌, ℕ, IsTrue, List, [], ◌∷◌, map, Bor, Iter, Option, None, Some, Result, Ok, Err, MatchOption, sym, ap, ◌∙◌}
use Rattle.std.specs.Iterator.{Yields, YieldsThen}
use Rattle.std.specs.List.{list_all, FoldsTo}
use Rattle.std.proofs.lemmas.Fn.{fronts}
use Rattle.std.proofs.lemmas.List.{nil_from_length}
use mathlib.Core.Bool.{and-eq-true_iff}
use borrow.Author.Tests.{ltb-true}
use Rattle.writer.specs.Fields.{put, packed, field_of, is_narrow}
use Rattle.writer.proofs.Fields.{refused}
use Rattle.writer.specs.declared.NoWord.{NoWord}

-- where every field of a slice is narrow, the next one is
narrow-first : (f : ℕ × ℕ) (fs : List (ℕ × ℕ)) → IsTrue (list_all is_narrow (f ∷ fs)) → ((0 < f.1) × (f.1 < 32)) × IsTrue (list_all is_narrow fs)
narrow-first f fs h =
    let p = (and-eq-true_iff _ _).0 h in
    let q = (and-eq-true_iff _ _).0 p.0 in
    ((ltb-true 0 f.1 q.0, ltb-true f.1 32 q.1), p.1)

pub narrow-next : (xs : List (Bor (ℕ × ℕ))) (s t u : Iter (ℕ × ℕ)) (x : Bor (ℕ × ℕ)) → IsTrue (list_all is_narrow s.rest.now)
    → Yields fronts s xs t → fronts t (Some x) u → (0 < x.now.1) × (x.now.1 < 32)
narrow-next [] s t u x h y e =
    let k : s.rest.now ≡ x.now ∷ u.rest.now = ap (λ (i : Iter (ℕ × ℕ)). i.rest.now) y ∙ e in
    (narrow-first x.now u.rest.now (rw k at h)).0
narrow-next (z ∷ zs) s t u x h y e = narrow-next zs y.0 t u x (narrow-first z.now y.0.rest.now (rw y.1 at h)).1 y.2 e

-- R is a turn that goes on: a field put behind what is packed
module _ (R : Unit {0} × ℕ → Bor (ℕ × ℕ) → Unit {0} × ℕ → Type 0)
    (step : (p : Unit {0} × ℕ) (x : Bor (ℕ × ℕ)) (q : Unit {0} × ℕ) → R p x q → put (Ok p.1) x.now.1 x.now.0 ≡ Ok q.1) where
  -- packing all from the start is packing what is left after some turns
  folded : (xs : List (Bor (ℕ × ℕ))) (s t : Iter (ℕ × ℕ)) (p q : Unit {0} × ℕ) → Yields fronts s xs t → FoldsTo R p xs q
      → packed (Ok p.1) (map field_of s.rest.now) ≡ packed (Ok q.1) (map field_of t.rest.now)
  folded [] s t p q y f = cc
  folded (x ∷ xs) s t p q y f =
      let e : s.rest.now ≡ x.now ∷ y.0.rest.now = y.1 in
      let g : put (Ok p.1) x.now.1 x.now.0 ≡ Ok f.0.1 = step p x f.0 f.1 in
      ap (λ (l : List (ℕ × ℕ)). packed (Ok p.1) (map field_of l)) e
      ∙ ap (λ (m : Result ℕ NoWord). packed m (map field_of y.0.rest.now)) g
      ∙ folded xs y.0 t f.0 q y.2 f.2

  -- the fields came to their end, or the turn at x broke off
  pub fold-packed : {D : Type 0} {B : Bor (ℕ × ℕ) → Type 0} (o : Option (Bor (ℕ × ℕ))) (xs : List (Bor (ℕ × ℕ))) (s u : Iter (ℕ × ℕ)) (p q : Unit {0} × ℕ) (r : Result ℕ NoWord)
      → YieldsThen fronts s xs o u → FoldsTo R p xs q → MatchOption o D B
      → (D → r ≡ Ok q.1) → ((x : Bor (ℕ × ℕ)) → B x → (e : NoWord) × (put (Ok q.1) x.now.1 x.now.0 ≡ Err e) × (r ≡ Err e))
      → r ≡ packed (Ok p.1) (map field_of s.rest.now)
  fold-packed None xs s u p q r y f m ends breaks =
      ends m ∙ sym (folded xs s y.0 p q y.1 f ∙ ap (λ (l : List (ℕ × ℕ)). packed (Ok q.1) (map field_of l)) (nil_from_length y.0.rest.now y.2.0))
  fold-packed (Some x) xs s u p q r y f m ends breaks =
      let b = breaks x m in
      b.2
      ∙ sym
      (folded xs s y.0 p q y.1 f
      ∙ ap (λ (l : List (ℕ × ℕ)). packed (Ok q.1) (map field_of l)) y.2
      ∙ ap (λ (m' : Result ℕ NoWord). packed m' (map field_of u.rest.now)) b.1
      ∙ refused (map field_of u.rest.now) b.0)
