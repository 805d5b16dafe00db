-- What the functions of `kinds` join: the sums of a word's instruction are those of what it reads as. Assumes nothing.
use Rattle.std.proofs.Common.{◌≡◌, ℕ, ◌+◌, ◌≤◌, ◌<◌, ◌^◌, Bool, true, false, ap, ◌∙◌, arith}
use Rattle.bits.specs.Choice.{pick}
use Rattle.word.specs.declared.Block.{Block}
use Rattle.word.specs.declared.Branch.{Branch}
use Rattle.word.specs.declared.Multiply.{Multiply}
use Rattle.word.specs.declared.Instruction.{Instruction}
use Rattle.processing.specs.Processing.{by_register?}
use Rattle.transfer.specs.Block.{count}
use Rattle.transfer.proofs.NamedRegisters.{named-length}
use Rattle.semantics.specs.declared.Sums.{Sums}
use Rattle.semantics.specs.Duration.{stores_counter}
use Rattle.semantics.specs.Sums.{plus, total, processed_sums, shifted_sums, load_sums, store_sums, block_load_sums, block_store_sums, refill_sums, processing_sums, single_sums, block_sums, branch_sums, multiply_sums, with_counter, sums_of}

pub block-short : (i : Block) → total (block_sums i) ≤ 20
block-short i = go i.l
  where
    go : (b : Bool) → total (pick b (block_load_sums (count i)) (block_store_sums (count i))) ≤ 20
    go true = omega (arith, named-length i.list)
    go false = omega (arith, named-length i.list)

more-short : (i : Instruction) (q : Sums) (m : ℕ) → total q ≤ 18 + m → total (with_counter i q) ≤ 20 + m
more-short i q m h = go (stores_counter i)
  where
    go : (b : Bool) → total (pick b (plus q refill_sums) q) ≤ 20 + m
    go true = omega arith
    go false = omega arith

-- no instruction adds more than 20, but for a multiply's m
pub sums-short : (i : Instruction) (m : ℕ) → total (sums_of i m) ≤ 20 + m
unfolding sums_of
sums-short (Instruction.Processing i) m = more-short (Instruction.Processing i) (processing_sums i) m (go (by_register? i.operand))
  where
    go : (b : Bool) → total (pick b shifted_sums processed_sums) ≤ 18 + m
    go true = omega arith
    go false = omega arith
sums-short (Instruction.Single i) m = more-short (Instruction.Single i) (single_sums i) m (go i.l)
  where
    go : (b : Bool) → total (pick b load_sums store_sums) ≤ 18 + m
    go true = omega arith
    go false = omega arith
sums-short (Instruction.Block i) m = more-short (Instruction.Block i) (block_sums i) m (go i.l)
  where
    go : (b : Bool) → total (pick b (block_load_sums (count i)) (block_store_sums (count i))) ≤ 18 + m
    go true = omega (arith, named-length i.list)
    go false = omega (arith, named-length i.list)
sums-short (Instruction.Branch i) m = omega arith
sums-short (Instruction.Multiply i) m = omega arith
sums-short (Instruction.Other w) m = omega arith

pub fits-by : {r : Sums} (i : Instruction) (m : ℕ) → r ≡ sums_of i m → m < 2 ^ 32 → total r < 2 ^ 33
fits-by i m e h = rw e (omega (arith, sums-short i m))

-- of its parts
pub adds-with : (i : Instruction) {r own q : Sums} {b : Bool} → r ≡ pick b (plus own refill_sums) own → own ≡ q → b ≡ stores_counter i → r ≡ with_counter i q
adds-with i e s t = e ∙ rw (s, t)

module _ {r : Sums} where
  pub read-adds : (m : ℕ) {i j : Instruction} → i ≡ j → r ≡ sums_of i m → r ≡ sums_of j m
  read-adds m e q = q ∙ ap (λ (x : Instruction). sums_of x m) e

  pub branch-adds : (i : Branch) (m : ℕ) → r ≡ branch_sums → r ≡ sums_of (Instruction.Branch i) m
  unfolding sums_of
  branch-adds i m e = e

  pub multiply-adds : (i : Multiply) (m : ℕ) → r ≡ multiply_sums m → r ≡ sums_of (Instruction.Multiply i) m
  unfolding sums_of
  multiply-adds i m e = e

  pub other-adds : (w m : ℕ) → r ≡ processed_sums → r ≡ sums_of (Instruction.Other w) m
  unfolding sums_of
  other-adds w m e = e
