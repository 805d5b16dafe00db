-- A multiply by second roads: Rm added once for each 1 that Rs counts, and the flags bit by bit.
use Rattle.std.specs.Prelude.{ℕ, suc, ◌/◌, ◌%◌, ◌^◌, ◌<◌, ◌≡◌, true, false, List, ◌≢◌, eqb, length, get_or, None}
use Rattle.bits.specs.Bits.{num}
use Rattle.word.specs.declared.Multiply.{Multiply}
use Rattle.datapath.specs.Alu.{sum}
use Rattle.multiply.specs.Multiply.{product, multiplied}

-- the register that is written, and the flags, afterwards
abbrev pub rd_after : Multiply → List ℕ → ℕ → ℕ
rd_after i g f = get_or (multiplied i g f).registers i.rd 0

abbrev pub flags_out : Multiply → List ℕ → ℕ → ℕ
flags_out i g f = (multiplied i g f).flags

-- of an instruction whose fields are registers
pub record Multiplies (i : Multiply) (g : List ℕ) (f : ℕ) : Type 0 where
  -- MUL is Rm added to 0, MLA to Rn, once for each 1 that Rs counts
  pub mul : i.accumulate ≡ false → rd_after i g f ≡ product (get_or g i.rm 0) (get_or g i.rs 0) 0
  pub mla : i.accumulate ≡ true → rd_after i g f ≡ product (get_or g i.rm 0) (get_or g i.rs 0) (get_or g i.rn 0)
  -- no other register changes, and the counter goes on
  pub others : (r : ℕ) → r ≢ i.rd → get_or (multiplied i g f).registers r 0 ≡ get_or g r 0
  pub goes : (multiplied i g f).goes ≡ None
  -- without S the flags are kept
  pub kept : i.s ≡ false → flags_out i g f ≡ f
  -- with S, N is bit 31 of the result and Z is 1 where it is 0
  pub sign : i.s ≡ true → flags_out i g f / 8 ≡ rd_after i g f / 2 ^ 31
  pub zero : i.s ≡ true → flags_out i g f / 4 % 2 ≡ num (eqb (rd_after i g f) 0)
  -- C and V are kept
  pub carries : i.s ≡ true → flags_out i g f % 4 ≡ f % 4

pub record Meaning : Type 0 where
  -- Rs = 0 leaves the addend
  pub none : (rm addend : ℕ) → addend < 2 ^ 32 → product rm 0 addend ≡ addend
  -- 1 more in Rs is Rm once more, by the ALU's sum
  pub once_more : (rm rs addend : ℕ) → product rm (suc rs) addend ≡ (sum (product rm rs addend) rm false).value
  pub instructions : (i : Multiply) (g : List ℕ) (f : ℕ) → length g ≡ 15 → i.rd < 15 → i.rn < 15 → i.rs < 15 → i.rm < 15 → Multiplies i g f
