-- The tests of a memory's length, and the conditions that they stand for. Assumes nothing.
use Prim.Native.Nat.{ℕ, ◌%◌}
use mathlib.Core.Path.{◌≡◌, refl, sym, ◌∙◌}
use mathlib.Core.Bool.{Bool, true, false, not, ◌||◌, false≢true}
use borrow.Author.Tests.{ltb-false, le-ltb, eqb-true, eq-eqb, not-false}
use lib.Dec.{eqb, ltb}
use Rattle.memory.specs.Lengths.{bad_length, GoodLength, Lengths}

-- both parts of a test that has failed
pub neither : (a b : Bool) → (a || b) ≡ false → (a ≡ false) × (b ≡ false)
neither true b e = absurd (false≢true (sym e))
neither false b e = (refl, e)

pub good_length : (n : ℕ) → bad_length n ≡ false → GoodLength n
good_length n e =
    let sizes = neither (not (eqb (n % 4) 0) || ltb n 16) (ltb 65536 n) e in
    let low = neither (not (eqb (n % 4) 0)) (ltb n 16) sizes.0 in
    record {
      whole = eqb-true (n % 4) 0 (not-false _ low.0);
      least = ltb-false n 16 low.1;
      most = ltb-false 65536 n sizes.1;
    }

pub length-good : (n : ℕ) → GoodLength n → bad_length n ≡ false
length-good n g = rw (eq-eqb (n % 4) 0 g.whole, le-ltb n 16 g.least, le-ltb 65536 n g.most)

pub lengths : (n : ℕ) → Lengths n
lengths n = record { accepted = good_length n; refused = λ e g. false≢true (sym (length-good n g) ∙ e) }
