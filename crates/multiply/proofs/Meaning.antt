-- The second roads to a multiply, proved.
-- Assumes nothing.
use Prim.Native.Nat.{ℕ, suc, ◌+◌, ◌*◌, ◌%◌, ◌^◌, ◌<◌}
use mathlib.Core.Path.{◌≡◌, refl, ◌∙◌}
use mathlib.Core.Bool.{true, false}
use mathlib.Core.List.{List}
use native.Mathlib.Nat.{mul-suc, mod-lt}
use native.Mathlib.Omega.{arith}
use lib.ListN.{length, get_or}
use lib.Pow.{pow_pos}
use Rattle.bits.specs.Bits.{field, num}
use Rattle.bits.proofs.Fields.{num-bit}
use Rattle.word.specs.declared.Multiply.{Multiply}
use Rattle.datapath.specs.Alu.{computed, sum, flags_of, carry_of, overflow_of}
use Rattle.datapath.proofs.Flags.{sign_of, zero_of, carries-of}
use Rattle.registers.proofs.Written.{put_other, put_same, register-below}
use Rattle.multiply.specs.Multiply.{product, product_of, flags_after, multiplied}
use Rattle.multiply.specs.Meaning.{Multiplies, Meaning}

-- C and V are the two lowest of the flags
lowest-two : (f : ℕ) → 2 * num (carry_of f) + num (overflow_of f) ≡ f % 4
unfolding field
lowest-two f = omega (arith, num-bit f 1, num-bit f 0)

none : (rm addend : ℕ) → addend < 2 ^ 32 → product rm 0 addend ≡ addend
none rm addend h = omega arith

once_more : (rm rs addend : ℕ) → product rm (suc rs) addend ≡ (sum (product rm rs addend) rm false).value
unfolding sum
once_more rm rs addend = omega (arith, mul-suc rm rs)

module _ (i : Multiply) (g : List ℕ) (f : ℕ) (l : length g ≡ 15) (d : i.rd < 15) (n : i.rn < 15) (s : i.rs < 15) (m : i.rm < 15) where
  abbrev value : ℕ
  value = product_of i g

  short : value < 2 ^ 32
  unfolding product_of
  short = mod-lt _ (pow_pos 32)

  written : get_or (multiplied i g f).registers i.rd 0 ≡ value
  unfolding multiplied
  written = put_same g i.rd value d l

  flags : i.s ≡ true → (multiplied i g f).flags ≡ flags_of (computed value (carry_of f) (overflow_of f))
  unfolding multiplied flags_after
  flags e = rw e

  multiplies : Multiplies i g f
  unfolding multiplied flags_after product_of
  multiplies = record {
    mul = λ a. written ∙ rw (a, register-below g i.rm 0 m, register-below g i.rs 0 s) refl;
    mla = λ a. written ∙ rw (a, register-below g i.rm 0 m, register-below g i.rs 0 s, register-below g i.rn 0 n) refl;
    others = λ r o. put_other g i.rd value r o;
    goes = refl;
    kept = λ e. rw e;
    sign = λ e. rw (flags e, written) (sign_of _ short);
    zero = λ e. rw (flags e, written) (zero_of _);
    carries = λ e. rw (flags e) (carries-of _ ∙ lowest-two f);
  }

pub meaning : Meaning
meaning = record { none = none; once_more = once_more; instructions = multiplies }
