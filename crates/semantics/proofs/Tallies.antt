-- What the paths of `perform` raise the tally by is what the table of sums says. Assumes nothing.
use Rattle.std.specs.Prelude.{Option, ℕ, Some, None}
use Rattle.std.proofs.Common.{◌≡◌, ℕ, suc, ◌+◌, ◌≤◌, ◌<◌, ◌^◌, Bool, true, false, eqb, List, length, refl, sym, ap, ◌∙◌, arith}
use Rattle.bits.specs.Choice.{pick}
use Rattle.bits.specs.Bits.{field}
use Rattle.bits.proofs.Tests.{zero-by, nonzero-by}
use Rattle.word.specs.declared.Processing.{Processing}
use Rattle.word.specs.declared.Single.{Single}
use Rattle.word.specs.declared.Block.{Block}
use Rattle.word.specs.declared.Branch.{Branch}
use Rattle.word.specs.declared.Multiply.{Multiply}
use Rattle.word.specs.declared.Instruction.{Instruction}
use Rattle.word.specs.Reader.{read_of}
use Rattle.condition.specs.Condition.{passes}
use Rattle.datapath.specs.Counter.{ahead}
use Rattle.registers.specs.Registers.{Out, out}
use Rattle.registers.specs.State.{State}
use Rattle.processing.specs.Processing.{processed, by_register?}
use Rattle.multiply.specs.Multiply.{rs_of}
use Rattle.multiply.specs.InternalCycles.{m_of}
use Rattle.transfer.specs.Single as single
use Rattle.transfer.specs.Block as block
use Rattle.stops.specs.Stops.{due, stop_of}
use Rattle.semantics.proofs.Quiet.{quietly, names-some}
use Rattle.semantics.specs.declared.Tally.{Tally}
use Rattle.semantics.specs.declared.Sums.{Sums}
use Rattle.semantics.specs.Branch.{branched}
use Rattle.semantics.specs.Effect.{base_then_register, base_then_registers, effect_of, load_effect, store_effect, block_load_effect, block_store_effect}
use Rattle.semantics.specs.Duration.{refills, stores_counter}
use Rattle.semantics.specs.Sums.{nsi, plus, no_sums, processed_sums, shifted_sums, load_sums, store_sums, block_load_sums, block_store_sums, refill_sums, processing_sums, single_sums, block_sums, with_counter, sums_of, m_in, executed_sums, performs_sums}
use Rattle.semantics.specs.Tally.{tally, raised, with_refills}
use Rattle.semantics.proofs.StoredCounters.{processed-refills, stored-counters}

-- room for the refills
pub raised-room : {w v : Tally} {n e : ℕ} → v ≡ tally (w.n + n) (w.extra + e) → w.n < 2 ^ 62 → w.extra < 2 ^ 62 → n ≤ 16 → e ≤ 16 → (v.n < 2 ^ 63) × (v.extra < 2 ^ 63)
raised-room e h k i j = rw e (omega arith, omega arith)

-- two counts, each as it is counted
counted : {a b c d : ℕ} → a ≡ b → c ≡ d → tally a c ≡ tally b d
counted e f = rw (e, f)

-- a block load counts each of its words once
pub block-load-raised : (w : Tally) (n : ℕ) {v : Tally} → v ≡ tally (w.n + 1) (w.extra + n) → v ≡ raised w (block_load_sums n)
block-load-raised w n e = e ∙ counted refl (omega arith)

module _ (w : Tally) where
  -- an instruction of one access, sequential, raises nothing
  pub one-access : (i : ℕ) → w ≡ raised w (nsi 0 1 i)
  one-access i = counted (omega arith) (omega arith)

  pub none-raised : w ≡ raised w no_sums
  none-raised = counted (omega arith) (omega arith)

  -- a stored counter raises it by its refills, whatever is raised for the own steps, which have an access at least
  refilled : (i : Instruction) (q : Sums) (t : Option ℕ) → refills t ≡ pick (stores_counter i) 2 0 → 1 ≤ q.n + q.s
      → with_refills (raised w q) t ≡ raised w (with_counter i q)
  refilled i q t e h = go t (stores_counter i) e
    where
      go : (t : Option ℕ) (b : Bool) → refills t ≡ pick b 2 0 → with_refills (raised w q) t ≡ raised w (pick b (plus q refill_sums) q)
      go None true e = absurd (omega arith)
      go None false e = refl
      go (Some x) true e = counted (omega arith) (omega arith)
      go (Some x) false e = absurd (omega arith)

  -- ---- what the paths of a load count

  pub load-counts : (i : Single) (s : State) {v u : Tally} {base address value : ℕ} {t : Option ℕ}
      → base ≡ single.changed_base i s.registers s.status (ahead s.a 8) → address ≡ single.address_of i s.registers s.status (ahead s.a 8)
      → value ≡ single.loaded_value i s.memory address → v ≡ with_refills u t → u ≡ raised w load_sums
      → t ≡ (base_then_register i s.registers s.status base value).goes
      → v ≡ with_refills (raised w load_sums) (load_effect i s).out.goes
  unfolding load_effect
  load-counts i s {value = value} b d x e f g =
      e
      ∙ rw f (ap (with_refills (raised w load_sums))
      (g
      ∙ ap (λ (z : ℕ). (base_then_register i s.registers s.status z value).goes) b
      ∙ ap (λ (z : ℕ). (base_then_register i s.registers s.status (single.changed_base i s.registers s.status (ahead s.a 8)) z).goes) (x ∙ ap (single.loaded_value i s.memory) d)))

  pub block-load-counts : (i : Block) (s : State) {v u : Tally} {base lowest : ℕ} {t : Option ℕ}
      → lowest ≡ block.lowest_address i s.registers → base ≡ block.changed_base i s.registers → v ≡ with_refills u t → u ≡ raised w (block_load_sums (block.count i))
      → t ≡ (base_then_registers i s.registers s.status base lowest s.memory).goes
      → v ≡ with_refills (raised w (block_load_sums (block.count i))) (block_load_effect i s).out.goes
  unfolding block_load_effect
  block-load-counts i s {base = base} l b e f g =
      e
      ∙ rw f (ap (with_refills (raised w (block_load_sums (block.count i))))
      (g
      ∙ ap (λ (z : ℕ). (base_then_registers i s.registers s.status base z s.memory).goes) l
      ∙ ap (λ (z : ℕ). (base_then_registers i s.registers s.status z (block.lowest_address i s.registers) s.memory).goes) b))

  -- ---- by class

  pub processing-raises : (i : Processing) (s : State) (pc : ℕ) {v : Tally} {h : List ℕ} {f : ℕ} {t : Option ℕ}
      → v ≡ with_refills w t → out h f t ≡ processed i s.registers s.status pc → v ≡ raised w (sums_of (Instruction.Processing i) (m_in (Instruction.Processing i) s.registers))
  unfolding sums_of
  processing-raises i s pc {t = t} e o =
      let stored : refills t ≡ pick (stores_counter (Instruction.Processing i)) 2 0 = ap (λ (x : Out). refills x.goes) o ∙ processed-refills i s.registers s.status pc in
      e ∙ ap (λ (x : Tally). with_refills x t) (own (by_register? i.operand)) ∙ refilled (Instruction.Processing i) (processing_sums i) t stored (some (by_register? i.operand))
    where
      own : (b : Bool) → w ≡ raised w (pick b shifted_sums processed_sums)
      own true = one-access 1
      own false = one-access 0

      some : (b : Bool) → 1 ≤ (pick b shifted_sums processed_sums).n + (pick b shifted_sums processed_sums).s
      some true = omega arith
      some false = omega arith

  module _ (i : Single) (s : State) {v : Tally} where
    pub load-raises : i.l ≡ true → v ≡ with_refills (raised w load_sums) (load_effect i s).out.goes
        → v ≡ raised w (sums_of (Instruction.Single i) (m_in (Instruction.Single i) s.registers))
    unfolding sums_of effect_of
    load-raises l e =
        let goes = (load_effect i s).out.goes in
        let stored : refills goes ≡ pick (stores_counter (Instruction.Single i)) 2 0 =
        ap (λ b. refills (pick b (load_effect i s) (store_effect i s)).out.goes) (sym l) ∙ stored-counters (Instruction.Single i) s in
        let own : single_sums i ≡ load_sums = ap (λ b. pick b load_sums store_sums) l in
        e ∙ refilled (Instruction.Single i) load_sums goes stored (omega arith) ∙ ap (λ (q : Sums). raised w (with_counter (Instruction.Single i) q)) (sym own)

    pub store-raises : i.l ≡ false → v ≡ raised w store_sums → v ≡ raised w (sums_of (Instruction.Single i) (m_in (Instruction.Single i) s.registers))
    unfolding sums_of stores_counter
    store-raises l e = rw l e

  module _ (i : Block) (s : State) {v : Tally} where
    pub block-load-raises : i.l ≡ true → v ≡ with_refills (raised w (block_load_sums (block.count i))) (block_load_effect i s).out.goes
        → v ≡ raised w (sums_of (Instruction.Block i) (m_in (Instruction.Block i) s.registers))
    unfolding sums_of effect_of
    block-load-raises l e =
        let n = block.count i in
        let goes = (block_load_effect i s).out.goes in
        let stored : refills goes ≡ pick (stores_counter (Instruction.Block i)) 2 0 =
        ap (λ b. refills (pick b (block_load_effect i s) (block_store_effect i s)).out.goes) (sym l) ∙ stored-counters (Instruction.Block i) s in
        let own : block_sums i ≡ block_load_sums n = ap (λ b. pick b (block_load_sums n) (block_store_sums n)) l in
        e ∙ refilled (Instruction.Block i) (block_load_sums n) goes stored (omega arith) ∙ ap (λ (q : Sums). raised w (with_counter (Instruction.Block i) q)) (sym own)

    pub block-store-raises : i.l ≡ false → v ≡ tally (w.n + 2) (w.extra + block.count i)
        → stop_of (Instruction.Block i) s ≡ 0 → v ≡ raised w (sums_of (Instruction.Block i) (m_in (Instruction.Block i) s.registers))
    unfolding sums_of stores_counter
    block-store-raises l e z =
        let named = names-some i s (quietly (Instruction.Block i) s z).allowed in
        let some : block.count i ≡ suc (length named.1) = ap length named.2 in
        rw l (e ∙ counted refl (omega arith))

  pub branch-raises : (i : Branch) (s : State) {v : Tally} {h : List ℕ} {f : ℕ} {t : Option ℕ}
      → v ≡ with_refills w t → out h f t ≡ branched i s.registers s.status s.a → v ≡ raised w (executed_sums (Instruction.Branch i) s)
  unfolding executed_sums stop_of Rattle.stops.specs.Rules.rule_broken Rattle.stops.specs.Walk.walk Rattle.stops.specs.Moves.moves_of sums_of branched
  branch-raises i s {t = t} e o = e ∙ ap (λ (x : Out). with_refills w x.goes) o

  -- stopped or done
  pub multiply-raises : (i : Multiply) (s : State) → w ≡ raised w (executed_sums (Instruction.Multiply i) s)
  unfolding executed_sums sums_of
  multiply-raises i s = go (eqb (stop_of (Instruction.Multiply i) s) 0)
    where
      go : (b : Bool) → w ≡ raised w (pick b (nsi 0 1 (m_of (rs_of i s.registers))) no_sums)
      go true = one-access (m_of (rs_of i s.registers))
      go false = none-raised

  -- ---- a passing condition: stopped, or done

  module _ (i : Instruction) (s : State) {q : ℕ} (e : q ≡ stop_of i s) where
    pub stop-raises : (q ≡ 0 → ⊥) → w ≡ raised w (executed_sums i s)
    unfolding executed_sums
    stop-raises n = rw (nonzero-by e n) none-raised

    pub done-raises : q ≡ 0 → {v : Tally} → v ≡ raised w (sums_of i (m_in i s.registers)) → v ≡ raised w (executed_sums i s)
    unfolding executed_sums
    done-raises z d = d ∙ rw (zero-by e z)

  -- ---- a word: its condition passes, or fails

  module _ (x : ℕ) (s : State) where
    pub passing-raises : {v : Tally} → passes (field x 28 4) s.status ≡ true → v ≡ raised w (executed_sums (read_of x) s) → v ≡ raised w (performs_sums (Some x) s)
    unfolding performs_sums due
    passing-raises p e = e ∙ rw p

    pub failing-raises : passes (field x 28 4) s.status ≡ false → w ≡ raised w (performs_sums (Some x) s)
    unfolding performs_sums due
    failing-raises e = rw e (one-access 0)

  pub blank-raises : (s : State) → w ≡ raised w (performs_sums None s)
  unfolding performs_sums due
  blank-raises s = none-raised

  pub fetched-raises : {x y : Option ℕ} (s : State) {v : Tally} → x ≡ y → v ≡ raised w (performs_sums y s) → v ≡ raised w (performs_sums x s)
  fetched-raises s e q = q ∙ ap (λ x. raised w (performs_sums x s)) (sym e)

  -- an instruction that is read from a word
  pub read-raises : {i j : Instruction} (s : State) {v : Tally} → i ≡ j → v ≡ raised w (executed_sums i s) → v ≡ raised w (executed_sums j s)
  read-raises s e q = q ∙ ap (λ i. raised w (executed_sums i s)) e

  pub other-raises : (x : ℕ) (s : State) → w ≡ raised w (executed_sums (Instruction.Other x) s)
  unfolding executed_sums stop_of
  other-raises x s = none-raised
