-- The order of a scale, its ends, and the marked places, proved. Assumes nothing.
use Rattle.std.proofs.Common.{◌≡◌, ℕ, ◌-◌, ◌*◌, ◌/◌, ◌^◌, ◌<◌, ◌≤◌, min, max, refl, arith}
use Rattle.std.proofs.Math.Nat.{zero-div, div-mul-le_self, mul-le-mul_right, mul-div_cancel_left}
use Rattle.std.proofs.lemmas.Nat.{le-div}
use Rattle.picture.specs.declared.span.Span.{Span}
use Rattle.picture.specs.Scale.{capped, length, share}
use Rattle.picture.specs.Order.{Order, Marked}

quotients : (m n k : ℕ) → 0 < k → m ≤ n → m / k ≤ n / k
quotients m n k p h = le-div (m / k) n k p (omega (arith, div-mul-le_self m k, h))

shares : (s : Span) (i j whole : ℕ) → i ≤ j → share s i whole ≤ share s j whole
shares s i j whole h =
    let more : i * whole ≤ j * whole = mul-le-mul_right whole h in
    quotients (capped (i * whole)) (capped (j * whole)) (max (length s) 1) (omega arith) (omega (arith, more))

all : (l w : ℕ) → 0 < l → l * w < 2 ^ 64 → capped (l * w) / max l 1 ≡ w
all l w p h =
    let c : capped (l * w) ≡ l * w = omega (arith, h) in
    let m : max l 1 ≡ l = omega (arith, p) in
    rw (c, m) (mul-div_cancel_left w p)

none : (k w : ℕ) → capped (0 * w) / k ≡ 0
none k w = let z : capped (0 * w) ≡ 0 = omega arith in rw z (zero-div k)

pub order : (s : Span) (whole : ℕ) → Order s whole
order s whole = record {
  keeps = λ a b h. shares s (min a s.to - s.from) (min b s.to - s.from) whole (omega (arith, h));
  first = let z : min s.from s.to - s.from ≡ 0 = omega arith in rw z (none (max (length s) 1) whole);
  last = λ p h. let e : min s.to s.to - s.from ≡ length s = omega arith in rw e (all (length s) whole (omega (arith, p)) h);
}

pub marked : Marked
marked = record { quarter = refl; below = refl; above = refl; empty = refl; beyond = refl; far = refl; across = refl; bottom = refl; middle = refl; top = refl; time = refl; clock = refl }
