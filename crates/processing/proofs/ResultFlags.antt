-- The flags are those of the result.
-- Assumes nothing.
use Rattle.std.specs.Prelude.{Some, None}
use Prim.Native.Nat.{ℕ, ◌/◌, ◌%◌, ◌^◌, ◌≤◌, ◌<◌}
use mathlib.Core.Path.{◌≡◌, refl, sym, ap, ◌∙◌}
use mathlib.Core.Bool.{Bool, true, false}
use mathlib.Core.List.{List}
use native.Mathlib.Omega.{arith}
use lib.Dec.{ltb, eqb}
use lib.ListN.{length, get_or, set}
use lib.Seq.{get_or-set_same}
use borrow.Author.Tests.{lt-ltb, le-ltb, ltb-false}
use Rattle.bits.specs.Choice.{pick}
use Rattle.bits.specs.Bits.{field, num}
use Rattle.word.specs.declared.Processing.{Processing}
use Rattle.datapath.specs.declared.Computed.{Computed}
use Rattle.datapath.specs.Alu.{stores_result, operate, flags_of}
use Rattle.datapath.proofs.Flags.{sign_of, zero_of}
use Rattle.registers.specs.Registers.{out, arrives}
use Rattle.processing.specs.Processing.{operand_of, computed_of, flags_after, stored, processed}
use Rattle.processing.specs.ResultFlags.{ResultFlags, by}

module _ (i : Processing) (g : List ℕ) (f : ℕ) (r : Computed) where
  -- the flags, whether a result is stored or not, and where
  flags-stored : (stored i g f r).flags ≡ flags_after i f r
  unfolding stored arrives
  flags-stored = go (stores_result i.operation) (ltb i.rd 15)
    where
      h : List ℕ
      h = set g i.rd r.value

      x : ℕ
      x = flags_after i f r

      go : (b d : Bool) → (pick b (pick d (out h x None) (out g x (Some r.value))) (out g x None)).flags ≡ x
      go true true = refl
      go true false = refl
      go false d = refl

  kept : i.s ≡ false → (stored i g f r).flags ≡ f
  unfolding flags_after
  kept e = flags-stored ∙ rw e

  module _ (s : i.s ≡ true) (d : i.rd < 15) (l : length g ≡ 15) (b : stores_result i.operation ≡ true) where
    stored-register : get_or (stored i g f r).registers i.rd 0 ≡ r.value
    unfolding stored arrives
    stored-register = rw (b, lt-ltb i.rd 15 d) (get_or-set_same g i.rd r.value 0 (omega arith))

    flags-register : (stored i g f r).flags ≡ flags_of r
    unfolding flags_after
    flags-register = flags-stored ∙ simp (s, lt-ltb)

    sign : get_or (stored i g f r).registers i.rd 0 < 2 ^ 32 → (stored i g f r).flags / 8 ≡ get_or (stored i g f r).registers i.rd 0 / 2 ^ 31
    sign h = rw (flags-register, stored-register) (sign_of r (rw stored-register at h))

    zero : (stored i g f r).flags / 4 % 2 ≡ num (eqb (get_or (stored i g f r).registers i.rd 0) 0)
    zero = rw (flags-register, stored-register) (zero_of r)

  -- a word that is stored into the counter is the result, and Rd is 15
  stored-counter : (word : ℕ) → (stored i g f r).goes ≡ Some word → (15 ≤ i.rd) × (r.value ≡ word)
  unfolding stored arrives
  stored-counter word = go (stores_result i.operation) (ltb i.rd 15) refl
    where
      h : List ℕ
      h = set g i.rd r.value

      x : ℕ
      x = flags_after i f r

      go : (b d : Bool) → ltb i.rd 15 ≡ d → (pick b (pick d (out h x None) (out g x (Some r.value))) (out g x None)).goes ≡ Some word
          → (15 ≤ i.rd) × (r.value ≡ word)
      go true true t e = let z : ◌≡◌ {A = ℕ} 0 1 = cc in absurd (omega arith)
      go true false t e = (ltb-false i.rd 15 t, cc)
      go false d t e = let z : ◌≡◌ {A = ℕ} 0 1 = cc in absurd (omega arith)

  counter : (word : ℕ) → i.s ≡ true → (stored i g f r).goes ≡ Some word → word < 2 ^ 32 → (stored i g f r).flags ≡ word / 2 ^ 28
  unfolding flags_after field
  counter word s e h =
      let d : 15 ≤ i.rd = (stored-counter word e).0 in
      flags-stored ∙ simp (s, le-ltb) (omega (arith, (stored-counter word e).1))

-- what the ALU makes of an instruction's operand
abbrev made : Processing → List ℕ → ℕ → ℕ → Computed
made i g f pc = computed_of i g f pc (operand_of i.operand g f pc)

-- an operation that stores nothing has the flags of one with the same result
tested : (op like : ℕ) (i : Processing) (g : List ℕ) (f pc : ℕ) → stores_result op ≡ false → made (by op i) g f pc ≡ made (by like i) g f pc
    → processed (by op i) g f pc ≡ out g (processed (by like i) g f pc).flags None
unfolding processed stored flags_after
tested op like i g f pc b e =
    rw (b, e) (ap (λ (n : ℕ). out g n None) (sym (flags-stored (by like i) g f (made (by like i) g f pc))))

pub result-flags : ResultFlags
unfolding processed computed_of operate
result-flags = record {
  kept = λ i g f pc. kept i g f (made i g f pc);
  counter = λ i g f pc. counter i g f (made i g f pc);
  sign = λ i g f pc. sign i g f (made i g f pc);
  zero = λ i g f pc. zero i g f (made i g f pc);
  tst = λ i g f pc. tested 8 0 i g f pc refl refl;
  teq = λ i g f pc. tested 9 1 i g f pc refl refl;
  cmp = λ i g f pc. tested 10 2 i g f pc refl refl;
  cmn = λ i g f pc. tested 11 4 i g f pc refl refl;
}
