-- N+S+I of an instruction is its duration.
-- Assumes nothing.
use Rattle.std.specs.Prelude.{Option, ℕ}
use Rattle.std.proofs.Common.{◌≡◌, ℕ, suc, ◌+◌, ◌≤◌, Bool, true, false, eqb, length, refl, sym, ap, ◌∙◌, eqb-true, arith}
use borrow.Author.Tests.{eqb-false}
use Rattle.bits.specs.Choice.{pick}
use Rattle.word.specs.declared.Instruction.{Instruction}
use Rattle.word.specs.Reader.{is_other}
use Rattle.processing.specs.Processing.{by_register?}
use Rattle.transfer.specs.Block.{count}
use Rattle.registers.specs.State.{State}
use Rattle.stops.specs.Stops.{Due, no_word_there, skipped, executes, due, stop_of}
use Rattle.semantics.proofs.Quiet.{quietly, names-some}
use Rattle.semantics.specs.declared.Sums.{Sums}
use Rattle.semantics.specs.Duration.{own_steps, stores_counter, duration_of}
use Rattle.semantics.specs.Perform.{executed, performed_due, performs}
use Rattle.semantics.specs.Sums.{plus, total, processed_sums, shifted_sums, load_sums, store_sums, block_load_sums, block_store_sums, refill_sums, processing_sums, single_sums, block_sums, with_counter, sums_of, m_in, executed_sums, sums_due, performs_sums, SumsLast}
use Rattle.semantics.proofs.StoredCounters.{lasting}

-- the refills of a stored counter are S+N
refills : (i : Instruction) (q : Sums) {n : ℕ} → total q ≡ n → total (with_counter i q) ≡ n + pick (stores_counter i) 2 0
refills i q {n} e = go (stores_counter i)
  where
    go : (b : Bool) → total (pick b (plus q refill_sums) q) ≡ n + pick b 2 0
    go true = omega (arith, e)
    go false = omega (arith, e)

-- of an instruction that meets no stop: a block then names a register
pub sums-last : (i : Instruction) (s : State) → stop_of i s ≡ 0 → total (sums_of i (m_in i s.registers)) ≡ duration_of i s.registers
unfolding sums_of duration_of own_steps
sums-last (Instruction.Processing i) s z = refills (Instruction.Processing i) (processing_sums i) (go (by_register? i.operand))
  where
    go : (b : Bool) → total (pick b shifted_sums processed_sums) ≡ pick b 2 1
    go true = refl
    go false = refl
sums-last (Instruction.Single i) s z = refills (Instruction.Single i) (single_sums i) (go i.l)
  where
    go : (b : Bool) → total (pick b load_sums store_sums) ≡ pick b 3 2
    go true = refl
    go false = refl
sums-last (Instruction.Block i) s z = refills (Instruction.Block i) (block_sums i) (go i.l)
  where
    go : (b : Bool) → total (pick b (block_load_sums (count i)) (block_store_sums (count i))) ≡ pick b (count i + 2) (count i + 1)
    go true = omega arith
    go false =
        let named = names-some i s (quietly (Instruction.Block i) s z).allowed in
        let some : count i ≡ suc (length named.1) = ap length named.2 in
        omega arith
sums-last (Instruction.Branch i) s z = unfold stores_counter in refl
sums-last (Instruction.Multiply i) s z = unfold stores_counter in omega arith
sums-last (Instruction.Other w) s z = absurd (let e : ◌≡◌ {A = ℕ} 0 1 = cc (quietly (Instruction.Other w) s z).known in omega arith)

executed-as : (i : Instruction) (s : State) → eqb (stop_of i s) 0 ≡ true → total (executed_sums i s) ≡ total (sums_of i (m_in i s.registers))
unfolding executed_sums
executed-as i s e = rw e

stopped-as : (i : Instruction) (s : State) → eqb (stop_of i s) 0 ≡ false → (executed i s).performed.stop ≡ 0 → stop_of i s ≡ 0
unfolding executed
stopped-as i s e z = rw e at z

pub sums-timed : SumsLast
unfolding performs_sums performs
sums-timed x s = go (due x s.status)
  where
    run : (i : Instruction) (b : Bool) → eqb (stop_of i s) 0 ≡ b → total (executed_sums i s) ≡ (executed i s).performed.cycles
    run i true e =
        let z : stop_of i s ≡ 0 = eqb-true (stop_of i s) 0 e in
        executed-as i s e ∙ sums-last i s z ∙ sym (lasting i s z)
    run i false e = unfold executed_sums executed in rw e refl

    go : (d : Due) → total (sums_due d s) ≡ (performed_due d s).performed.cycles
    go no_word_there = refl
    go skipped = refl
    go (executes i) = run i (eqb (stop_of i s) 0) refl

-- ---- an instruction has an access at least

more-access : (i : Instruction) (q : Sums) → 1 ≤ q.n + q.s → 1 ≤ (with_counter i q).n + (with_counter i q).s
more-access i q h = go (stores_counter i)
  where
    go : (b : Bool) → 1 ≤ (pick b (plus q refill_sums) q).n + (pick b (plus q refill_sums) q).s
    go true = omega arith
    go false = h

executed-access : (i : Instruction) (m : ℕ) → is_other i ≡ false → 1 ≤ (sums_of i m).n + (sums_of i m).s
unfolding sums_of
executed-access (Instruction.Processing i) m e = more-access (Instruction.Processing i) (processing_sums i) (go (by_register? i.operand))
  where
    go : (b : Bool) → 1 ≤ (pick b shifted_sums processed_sums).n + (pick b shifted_sums processed_sums).s
    go true = omega arith
    go false = omega arith
executed-access (Instruction.Single i) m e = more-access (Instruction.Single i) (single_sums i) (go i.l)
  where
    go : (b : Bool) → 1 ≤ (pick b load_sums store_sums).n + (pick b load_sums store_sums).s
    go true = omega arith
    go false = omega arith
executed-access (Instruction.Block i) m e = more-access (Instruction.Block i) (block_sums i) (go i.l)
  where
    go : (b : Bool) → 1 ≤ (pick b (block_load_sums (count i)) (block_store_sums (count i))).n + (pick b (block_load_sums (count i)) (block_store_sums (count i))).s
    go true = omega arith
    go false = omega arith
executed-access (Instruction.Branch i) m e = omega arith
executed-access (Instruction.Multiply i) m e = omega arith
executed-access (Instruction.Other w) m e = absurd (let z : ◌≡◌ {A = ℕ} 0 1 = cc e in omega arith)

pub some-access : (x : Option ℕ) (s : State) → (performs x s).performed.stop ≡ 0 → 1 ≤ (performs_sums x s).n + (performs_sums x s).s
unfolding performs_sums performs
some-access x s = go (due x s.status)
  where
    run : (i : Instruction) (b : Bool) → eqb (stop_of i s) 0 ≡ b → (executed i s).performed.stop ≡ 0 → 1 ≤ (executed_sums i s).n + (executed_sums i s).s
    run i true e z = unfold executed_sums in rw e (executed-access i (m_in i s.registers) (quietly i s (eqb-true (stop_of i s) 0 e)).known)
    run i false e z = absurd (eqb-false (stop_of i s) 0 e (stopped-as i s e z))

    go : (d : Due) → (performed_due d s).performed.stop ≡ 0 → 1 ≤ (sums_due d s).n + (sums_due d s).s
    go no_word_there z = absurd (omega (arith, z))
    go skipped z = omega arith
    go (executes i) z = run i (eqb (stop_of i s) 0) refl z
