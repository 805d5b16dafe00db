-- The conditions after a comparison, by the order of the two words and of their signed values.
-- Assumes nothing.
use mathlib.Core.Path.{◌≡◌, refl, sym, ap, ◌∙◌}
use mathlib.Core.Bool.{Bool, true, false, not, ◌&&◌}
use mathlib.Core.Logic.{◌≢◌}
use Prim.Native.Nat.{ℕ, ◌+◌, ◌*◌, ◌%◌, ◌^◌, ◌≤◌, ◌<◌}
use native.Mathlib.Omega.{arith}
use lib.Dec.{T, lit<, ltb, leb, eqb}
use lib.ListN.{get_or}
use lib.IntN.{pos}
use lib.Signed.{le_z, lt_z}
use borrow.Author.Tests.{lt-ltb, le-ltb, leb-true, leb-false, eqb-true, eqb-false}
use Rattle.bits.specs.Choice.{same}
use Rattle.bits.specs.Bits.{bit, field, num}
use Rattle.bits.proofs.Fields.{bit-of}
use Rattle.bits.proofs.Tests.{not-leb, not-ltb}
use Rattle.datapath.specs.declared.Computed.{Computed}
use Rattle.datapath.specs.Alu.{sum, difference, flags_of}
use Rattle.datapath.specs.Signed.{signed_value}
use Rattle.datapath.proofs.Flags.{num-le}
use Rattle.datapath.proofs.Integers.{not_le_z, not_lt_z}
use Rattle.datapath.proofs.Orders.{compared-carry, compared-zero, compared-signed, signed_below, signed-negative, overflow}
use Rattle.condition.specs.Condition.{conditions, passes}
use Rattle.condition.specs.Table.{all}
use Rattle.condition.specs.Comparisons.{compared, Order, Comparisons}
use Rattle.condition.proofs.Table.{all-at, alike, low-flags}

-- ---- a condition by the flags of a result, each at its bit

by_flags : (k : ℕ) (r : Computed)
    → passes k (flags_of r) ≡ get_or (conditions (bit r.value 31) (eqb r.value 0) r.carry r.overflow) (k % 16) false
unfolding passes field flags_of
by_flags k r =
    let n = bit r.value 31 in
    let z = eqb r.value 0 in
    let c = r.carry in
    let v = r.overflow in
    let ln : num n ≤ 1 = num-le n in
    let lz : num z ≤ 1 = num-le z in
    let lc : num c ≤ 1 = num-le c in
    let lv : num v ≤ 1 = num-le v in
    let f = 8 * num n + 4 * num z + 2 * num c + num v in
    rw (bit-of f 3 n (omega arith), bit-of f 2 z (omega arith), bit-of f 1 c (omega arith), bit-of f 0 v (omega arith))

-- ---- each odd one up to 13 negates the one before: one computed test, at each value of the flags

abbrev negates : ℕ → Bool
negates k = all (λ f. same (passes (2 * k + 1) f) (not (passes (2 * k) f))) 16

negated : T (all negates 7)
unfolding passes bit field
negated = tt

odd_negates : (k f : ℕ) → k < 7 → passes (2 * k + 1) f ≡ not (passes (2 * k) f)
odd_negates k f h =
    rw (← (low-flags (2 * k + 1) f), ← (low-flags (2 * k) f))
    (alike (passes (2 * k + 1)) (λ f. not (passes (2 * k) f)) (all-at negates 7 negated k h) f)

-- ---- the order

-- b below a, from b at most a and unequal
strictly : (a b : ℕ) → (leb b a && not (eqb a b)) ≡ ltb b a
strictly a b = go (leb b a) (eqb a b) refl refl
  where
    go : (t e : Bool) → leb b a ≡ t → eqb a b ≡ e → (t && not e) ≡ ltb b a
    go true true t e = let q : a ≡ b = eqb-true a b e in sym (le-ltb b a (omega arith))
    go true false t e =
        let q : a ≢ b = eqb-false a b e in
        let l : b ≤ a = leb-true b a t in
        sym (lt-ltb b a (omega arith))
    go false e t _ = let l : a < b = leb-false b a t in sym (le-ltb b a (omega arith))

module _ (a b : ℕ) (ha : a < 2 ^ 32) (hb : b < 2 ^ 32) where
  abbrev d : Computed
  d = difference a b true

  equal : passes 0 (compared a b) ≡ eqb a b
  equal = by_flags 0 d ∙ compared-zero a b ha hb

  carried : passes 2 (compared a b) ≡ leb b a
  carried = by_flags 2 d ∙ compared-carry a b ha hb

  higher : passes 8 (compared a b) ≡ ltb b a
  higher = by_flags 8 d ∙ rw (compared-carry a b ha hb, compared-zero a b ha hb) (strictly a b)

  at_least : passes 10 (compared a b) ≡ le_z (signed_value b) (signed_value a)
  at_least = by_flags 10 d ∙ compared-signed a b ha hb

  greater : passes 12 (compared a b) ≡ lt_z (signed_value b) (signed_value a)
  greater = by_flags 12 d ∙ rw (compared-signed a b ha hb, compared-zero a b ha hb) (signed_below a b ha hb)

  ordered : Order a b
  ordered =
      let f = compared a b in
      record {
        eq_passes = equal;
        ne_passes = odd_negates 0 f (lit< tt) ∙ ap not equal;
        cs_passes = carried;
        cc_passes = odd_negates 1 f (lit< tt) ∙ ap not carried ∙ not-leb a b;
        hi_passes = higher;
        ls_passes = odd_negates 4 f (lit< tt) ∙ ap not higher ∙ not-ltb a b;
        ge_passes = at_least;
        lt_passes = odd_negates 5 f (lit< tt) ∙ ap not at_least ∙ not_le_z (signed_value a) (signed_value b);
        gt_passes = greater;
        le_passes = odd_negates 6 f (lit< tt) ∙ ap not greater ∙ not_lt_z (signed_value a) (signed_value b);
      }

-- ---- the theorem

minus : (r : Computed) → r.value < 2 ^ 32 → passes 4 (flags_of r) ≡ lt_z (signed_value r.value) (pos 0)
minus r h = by_flags 4 r ∙ signed-negative r.value h

pub comparisons : Comparisons
unfolding passes
comparisons = record {
  order = ordered;
  mi_passes = minus;
  pl_passes = λ r h. odd_negates 2 (flags_of r) (lit< tt) ∙ ap not (minus r h) ∙ not_lt_z (pos 0) (signed_value r.value);
  vs_sum = λ a b c ha hb. by_flags 6 (sum a b c) ∙ overflow.of_sum a b c ha hb;
  vs_difference = λ a b c ha hb. by_flags 6 (difference a b c) ∙ overflow.of_difference a b c ha hb;
  odd_negates = odd_negates;
  always_passes = λ f. refl;
  never_passes = λ f. refl;
}
