-- Data beyond a memory, by its bytes; and data inside it, put over what was there. Assumes nothing.
use mathlib.Core.Path.{◌≡◌, refl, sym, ap, ◌∙◌}
use mathlib.Core.Bool.{Bool, true, false, not, ◌&&◌}
use mathlib.Core.List.{List, ◌++◌}
use Prim.Native.Nat.{ℕ, zero, suc, ◌+◌, ◌-◌, ◌<◌, ◌≤◌}
use native.Mathlib.Omega.{arith}
use borrow.Author.Tests.{lt-ltb, leb-true, leb-false, ltb-true, ltb-false, eqb-true, ne_eqb}
use lib.Dec.{eqb, ltb, leb}
use lib.ListN.{length, length-take, take, drop, get_or}
use mathlib.Core.Logic.{◌⊎◌, inl, inr}
use Rattle.std.proofs.lemmas.List.{get_or_append_left, get_or-append_right, get_or-take, get_or-drop}
use Rattle.bits.specs.Choice.{pick}
use Rattle.intel_hex.specs.Reader.{beyond, over}
use Rattle.intel_hex.specs.Named.{named, Beyond}
use Rattle.intel_hex.proofs.FirstLine.{both}
use Rattle.intel_hex.proofs.Over.{over-none, over-length}

pub beyond-is : (at : ℕ) (bytes mem : List ℕ) → Beyond at bytes mem
beyond-is at bytes mem = record { some = some; all = all }
  where
    some : beyond at bytes mem ≡ true → (j : ℕ) × (j < length bytes) × (length mem ≤ at + j)
    some e =
        let parts = both (not (eqb (length bytes) 0)) (ltb (length mem) (at + length bytes)) e in
        let past = ltb-true (length mem) (at + length bytes) parts.1 in
        let any = not-none (length bytes) parts.0 in
        (length bytes - 1, omega (arith, any), omega (arith, any, past))
      where
        not-none : (n : ℕ) → not (eqb n 0) ≡ true → 0 < n
        not-none zero e = absurd cc
        not-none (suc n) e = omega arith

    all : (j : ℕ) → j < length bytes → length mem ≤ at + j → beyond at bytes mem ≡ true
    all j h past =
        rw (ne_eqb (length bytes) 0 (λ none. omega (arith, none, h)), lt-ltb (length mem) (at + length bytes) (omega (arith, h, past))) refl

-- where it is not beyond, there is none or its end is inside
pub inside-or-none : (at : ℕ) (bytes mem : List ℕ) → beyond at bytes mem ≡ false → (length bytes ≡ 0) ⊎ (at + length bytes ≤ length mem)
inside-or-none at bytes mem e = go (eqb (length bytes) 0) refl
  where
    go : (b : Bool) → eqb (length bytes) 0 ≡ b → (length bytes ≡ 0) ⊎ (at + length bytes ≤ length mem)
    go true none = inl (eqb-true (length bytes) 0 none)
    go false some = inr (ltb-false (length mem) (at + length bytes) (rw some at e))

pub over-keeps : (at : ℕ) (bytes mem : List ℕ) → beyond at bytes mem ≡ false → length (over at bytes mem) ≡ length mem
over-keeps at bytes mem e = go (inside-or-none at bytes mem e)
  where
    go : (length bytes ≡ 0) ⊎ (at + length bytes ≤ length mem) → length (over at bytes mem) ≡ length mem
    go (inl none) = ap length (over-none at bytes mem none)
    go (inr room) = over-length at bytes mem room

-- ---- the byte of an address

over-inside : (at a : ℕ) (bytes mem : List ℕ) → at + length bytes ≤ length mem → get_or (over at bytes mem) a 0 ≡ named a at bytes (get_or mem a 0)
unfolding over
over-inside at a bytes mem room = by-front (leb at a) refl (ltb a (at + length bytes)) refl
  where
    begin : length (take at mem) ≡ at
    begin = length-take at mem ∙ omega (arith, room)

    rest : List ℕ
    rest = bytes ++ drop (at + length bytes) mem

    by-front : (b : Bool) → leb at a ≡ b → (c : Bool) → ltb a (at + length bytes) ≡ c
        → get_or (take at mem ++ rest) a 0 ≡ pick (b && c) (get_or bytes (a - at) 0) (get_or mem a 0)
    by-front false e c f =
        let below = leb-false at a e in
        get_or_append_left (take at mem) rest 0 a (omega (arith, below, begin)) ∙ get_or-take at mem a 0 below
    by-front true e true f =
        let above = leb-true at a e in
        let within = ltb-true a (at + length bytes) f in
        get_or-append_right (take at mem) rest at a 0 begin above
        ∙ get_or_append_left bytes (drop (at + length bytes) mem) 0 (a - at) (omega (arith, above, within))
    by-front true e false f =
        let above = leb-true at a e in
        let past = ltb-false a (at + length bytes) f in
        let there : at + length bytes + (a - at - length bytes) ≡ a = omega (arith, past) in
        get_or-append_right (take at mem) rest at a 0 begin above
        ∙ get_or-append_right bytes (drop (at + length bytes) mem) (length bytes) (a - at) 0 refl (omega (arith, past))
        ∙ get_or-drop (at + length bytes) mem (a - at - length bytes) 0 ∙ ap (λ i. get_or mem i 0) there

pub over-at : (at a : ℕ) (bytes mem : List ℕ) → beyond at bytes mem ≡ false → get_or (over at bytes mem) a 0 ≡ named a at bytes (get_or mem a 0)
over-at at a bytes mem e = go (inside-or-none at bytes mem e)
  where
    none-named : (b c : Bool) (x y : ℕ) → (b ≡ true → c ≡ true → ⊥) → pick (b && c) x y ≡ y
    none-named true true x y n = absurd (n refl refl)
    none-named true false x y n = refl
    none-named false c x y n = refl

    go : (length bytes ≡ 0) ⊎ (at + length bytes ≤ length mem) → get_or (over at bytes mem) a 0 ≡ named a at bytes (get_or mem a 0)
    go (inl none) =
        ap (λ x. get_or x a 0) (over-none at bytes mem none)
        ∙ sym (none-named (leb at a) (ltb a (at + length bytes)) _ _ (λ e f. omega (arith, none, leb-true at a e, ltb-true a (at + length bytes) f)))
    go (inr room) = over-inside at a bytes mem room
