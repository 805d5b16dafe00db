-- What the functions of `perform` join: the parts of an instruction, and a stop or an effect.
-- Assumes nothing.
use Rattle.std.specs.Prelude.{Option, ℕ, Some, None}
use Rattle.std.proofs.Common.{◌≡◌, ℕ, ◌+◌, true, false, List, sym, refl, ap, ◌∙◌, arith}
use Rattle.bits.specs.Bits.{field}
use Rattle.bits.proofs.Tests.{zero-by, nonzero-by}
use Rattle.word.specs.declared.Processing.{Processing}
use Rattle.word.specs.declared.Single.{Single}
use Rattle.word.specs.declared.Block.{Block}
use Rattle.word.specs.declared.Branch.{Branch}
use Rattle.word.specs.declared.Multiply.{Multiply}
use Rattle.word.specs.declared.Instruction.{Instruction}
use Rattle.word.specs.Reader.{read_of}
use Rattle.condition.specs.Condition.{passes}
use Rattle.datapath.specs.Counter.{ahead}
use Rattle.memory.specs.Memory.{Memory}
use Rattle.registers.specs.declared.Outcome.{Outcome}
use Rattle.registers.specs.Registers.{Out, out}
use Rattle.registers.specs.State.{State}
use Rattle.processing.specs.Processing.{processed, reads_at}
use Rattle.multiply.specs.Multiply.{multiplied}
use Rattle.transfer.specs.Single as single
use Rattle.transfer.specs.Block as block
use Rattle.stops.specs.Numbers.{no_word, other_word}
use Rattle.stops.specs.Rules.{rule_broken}
use Rattle.stops.specs.Moves.{moves_of}
use Rattle.stops.specs.Walk.{walk}
use Rattle.stops.specs.Stops.{due, stop_of}
use Rattle.semantics.specs.Perform.{Told}
use Rattle.semantics.specs.Branch.{branched}
use Rattle.semantics.specs.Effect.{Effect, effect, Left, base_then_register, base_then_registers, load_effect, store_effect, block_load_effect, block_store_effect, effect_of}
use Rattle.semantics.specs.Duration.{processing_steps, single_steps, block_steps, multiply_steps, own_steps, skipped_steps, refills, next_address}
use Rattle.semantics.specs.Perform.{Result, result_of, performed, stopped_at, done, executed, performs}

and_none : (s : ℕ) → s ≡ s + 0
and_none s = omega arith

-- the counter went on, or was stored
pub went_on : {p : Told} {t : Option ℕ} {f : ℕ} (a steps : ℕ) → t ≡ None → p ≡ performed 0 f (ahead a 4) steps
    → p ≡ performed 0 f (next_address a t) (steps + refills t)
went_on {f = f} a steps e q =
    q ∙ ap (performed 0 f (ahead a 4)) (and_none steps) ∙ ap (λ (x : Option ℕ). performed 0 f (next_address a x) (steps + refills x)) (sym e)

-- what is left, put together again
pub whole : {o : Out} {h : List ℕ} {t : Outcome} → Left o h t → out h t.flags t.goes ≡ o
whole {o} l = rw (l.registers, l.flags, l.goes)

-- an instruction done, from what it left
pub finished : (s : State) (steps : ℕ) {p : Told} {h : List ℕ} {f : ℕ} {t : Option ℕ} {o : Out} {mem : Memory}
    → p ≡ performed 0 f (next_address s.a t) (steps + refills t) → out h f t ≡ o → result_of p h mem ≡ done s steps (effect o mem)
finished s steps {p} {h} {f} {t} {mem = mem} q e =
    ap (λ (x : Told). result_of x h mem) q ∙ ap (λ (x : Out). done s steps (effect x mem)) e

-- in so many own steps
module _ (s : State) (steps : ℕ) {p : Told} {h : List ℕ} where
  pub load_done : (i : Single) {base address value : ℕ} {f₂ : ℕ} {t : Option ℕ}
      → base ≡ single.changed_base i s.registers s.status (ahead s.a 8) → address ≡ single.address_of i s.registers s.status (ahead s.a 8) → value ≡ single.loaded_value i s.memory address
      → p ≡ performed 0 f₂ (next_address s.a t) (steps + refills t) → out h f₂ t ≡ base_then_register i s.registers s.status base value
      → result_of p h s.memory ≡ done s steps (load_effect i s)
  unfolding load_effect
  load_done i b d v q e = finished s steps {o = (load_effect i s).out} q (e ∙ rw (v, d, b))

  pub block-load-done : (i : Block) {base lowest : ℕ} {f₂ : ℕ} {t : Option ℕ} → lowest ≡ block.lowest_address i s.registers → base ≡ block.changed_base i s.registers
      → p ≡ performed 0 f₂ (next_address s.a t) (steps + refills t) → out h f₂ t ≡ base_then_registers i s.registers s.status base lowest s.memory
      → result_of p h s.memory ≡ done s steps (block_load_effect i s)
  unfolding block_load_effect
  block-load-done i l b q e = finished s steps {o = (block_load_effect i s).out} q (e ∙ rw (l, b))

-- ---- a passing condition: stopped, or done

module _ (i : Instruction) (s : State) {q : ℕ} (e : q ≡ stop_of i s) where
  pub executed-stop : {p : Told} → (q ≡ 0 → ⊥) → p ≡ stopped_at q s.status s.a → result_of p s.registers s.memory ≡ executed i s
  unfolding executed
  executed-stop n d = rw (nonzero-by e n, d, e)

  pub executed-done : q ≡ 0 → {r : Result} → r ≡ done s (own_steps i s.registers) (effect_of i s) → r ≡ executed i s
  unfolding executed
  executed-done z d = d ∙ rw (zero-by e z)

module _ (i : Single) (s : State) where
  abbrev single-done : Effect → Result
  single-done = done s (own_steps (Instruction.Single i) s.registers)

  pub single-load : i.l ≡ true → done s (single_steps i) (load_effect i s) ≡ single-done (effect_of (Instruction.Single i) s)
  unfolding own_steps effect_of
  single-load e = rw e

  pub single-store : i.l ≡ false → done s (single_steps i) (store_effect i s) ≡ single-done (effect_of (Instruction.Single i) s)
  unfolding own_steps effect_of
  single-store e = rw e

module _ (i : Block) (s : State) where
  abbrev block_done : Effect → Result
  block_done = done s (own_steps (Instruction.Block i) s.registers)

  pub block-load : i.l ≡ true → done s (block_steps i) (block_load_effect i s) ≡ block_done (effect_of (Instruction.Block i) s)
  unfolding own_steps effect_of
  block-load e = rw e

  pub block-store : i.l ≡ false → done s (block_steps i) (block_store_effect i s) ≡ block_done (effect_of (Instruction.Block i) s)
  unfolding own_steps effect_of
  block-store e = rw e

pub processing-done : (i : Processing) (s : State) {steps pc : ℕ} {p : Told} {h : List ℕ} {f₂ : ℕ} {t : Option ℕ}
    → steps ≡ processing_steps i → pc ≡ reads_at i s.a → p ≡ performed 0 f₂ (next_address s.a t) (steps + refills t) → out h f₂ t ≡ processed i s.registers s.status pc
    → result_of p h s.memory ≡ done s (own_steps (Instruction.Processing i) s.registers) (effect_of (Instruction.Processing i) s)
unfolding own_steps effect_of
processing-done i s {steps} n c q o = rw (← n) (finished s steps {o = (effect_of (Instruction.Processing i) s).out} q (o ∙ rw c))

pub branch-done : (i : Branch) (s : State) {p : Told} {h : List ℕ} {f₂ : ℕ} {t : Option ℕ}
    → p ≡ performed 0 f₂ (next_address s.a t) (1 + refills t) → out h f₂ t ≡ branched i s.registers s.status s.a
    → result_of p h s.memory ≡ executed (Instruction.Branch i) s
unfolding executed stop_of rule_broken walk moves_of own_steps effect_of
branch-done i s q o = finished s 1 q o

pub multiply-done : (i : Multiply) (s : State) {steps : ℕ} {p : Told} {h : List ℕ} {f₂ : ℕ}
    → steps ≡ multiply_steps i s.registers → p ≡ performed 0 f₂ (ahead s.a 4) steps → out h f₂ None ≡ multiplied i s.registers s.status
    → result_of p h s.memory ≡ done s (own_steps (Instruction.Multiply i) s.registers) (effect_of (Instruction.Multiply i) s)
unfolding own_steps effect_of
multiply-done i s {steps} n q o =
    rw (← n) (finished s steps {o = (effect_of (Instruction.Multiply i) s).out} (went_on {t = None} s.a steps refl q) o)

pub other-stop : (w : ℕ) (s : State) {p : Told} → p ≡ stopped_at other_word s.status s.a → result_of p s.registers s.memory ≡ executed (Instruction.Other w) s
unfolding executed stop_of
other-stop w s q = ap (λ (x : Told). result_of x s.registers s.memory) q

-- an instruction that is read from a word
pub read_as : {i j : Instruction} (s : State) {r : Result} → i ≡ j → r ≡ executed i s → r ≡ executed j s
read_as s e q = q ∙ ap (λ i. executed i s) e

-- ---- a word: its condition passes, or fails

module _ (w : ℕ) (s : State) where
  pub passing : {r : Result} → passes (field w 28 4) s.status ≡ true → r ≡ executed (read_of w) s → r ≡ performs (Some w) s
  unfolding performs due
  passing p e = e ∙ rw p

  pub failing : {p : Told} → passes (field w 28 4) s.status ≡ false → p ≡ performed 0 s.status (ahead s.a 4) skipped_steps
      → result_of p s.registers s.memory ≡ performs (Some w) s
  unfolding performs due
  failing e q = rw (q, e)

-- ---- what was fetched

pub fetched-as : {x y : Option ℕ} (s : State) {r : Result} → x ≡ y → r ≡ performs y s → r ≡ performs x s
fetched-as s e q = q ∙ ap (λ x. performs x s) (sym e)

pub blank-stop : (s : State) {p : Told} → p ≡ stopped_at no_word s.status s.a → result_of p s.registers s.memory ≡ performs None s
unfolding performs due
blank-stop s q = ap (λ (x : Told). result_of x s.registers s.memory) q
