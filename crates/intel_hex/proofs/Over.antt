-- Bytes put over those of memory: how long it stays, and that a part written back is that. Assumes nothing.
use mathlib.Core.Path.{◌≡◌, ap, ◌∙◌}
use mathlib.Core.List.{List}
use Prim.Native.Nat.{ℕ, ◌+◌, ◌≤◌}
use native.Mathlib.Omega.{arith}
use borrow.Rule.Slice.PartMut.{put_mid}
use lib.ListN.{length, length-take}
use Rattle.std.proofs.lemmas.List.{nil_from_length, take-append-drop, drop-drop, length-append, length-drop}
use Rattle.intel_hex.specs.Reader.{over}

pub over-none : (at : ℕ) (bytes mem : List ℕ) → length bytes ≡ 0 → over at bytes mem ≡ mem
unfolding over
over-none at bytes mem none =
    let same : at + 0 ≡ at = omega arith in
    rw (nil_from_length bytes none, same) (take-append-drop at mem)

pub over-length : (at : ℕ) (bytes mem : List ℕ) → at + length bytes ≤ length mem → length (over at bytes mem) ≡ length mem
unfolding over
over-length at bytes mem inside = simp (length-append, length-take, length-drop) (omega (arith, inside))

-- a part of memory as it is written back
pub over-part : (at n : ℕ) (bytes mem : List ℕ) → length bytes ≡ n → put_mid at n mem bytes ≡ over at bytes mem
unfolding over
over-part at n bytes mem long = rw (long, ← drop-drop n at mem)

pub part-length : (at n : ℕ) (bytes mem : List ℕ) → length bytes ≡ n → at + n ≤ length mem → length (put_mid at n mem bytes) ≡ length mem
part-length at n bytes mem long inside = ap length (over-part at n bytes mem long) ∙ over-length at bytes mem (rw (← long) at inside)
