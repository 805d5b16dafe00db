-- A core that passes the test for a bad record, its cycles and sums apart, passes it after a cycle.
-- Assumes nothing.
use Rattle.std.specs.Prelude.{Option, ℕ, Some, None}
use Prim.Native.Nat.{ℕ, zero, suc, ◌+◌, ◌-◌, ◌%◌, ◌≤◌, ◌<◌}
use mathlib.Core.Path.{◌≡◌, refl, sym, ap, ◌∙◌}
use mathlib.Core.List.{List, [], ◌∷◌}
use mathlib.Core.Bool.{Bool, true, false, not, ◌&&◌, false≢true}
use native.Mathlib.Nat.{mod-eq_of_lt}
use native.Mathlib.Omega.{arith}
use lib.ListN.{length, drop}
use lib.Dec.{ltb, eqb}
use borrow.Author.Tests.{not-false, ltb-true, lt-ltb, eqb-true}
use Rattle.bits.specs.Choice.{pick}
use Rattle.bits.specs.Bits.{field, bit}
use Rattle.word.specs.declared.Single.{Single}
use Rattle.word.specs.declared.Block.{Block}
use Rattle.word.specs.declared.Multiply.{Multiply}
use Rattle.word.specs.declared.Instruction.{Instruction}
use Rattle.word.specs.Reader.{read_of, is_other}
use Rattle.condition.specs.Condition.{passes}
use Rattle.datapath.specs.Counter.{ahead, behind, counters}
use Rattle.datapath.proofs.Counters.{ahead-lt, ahead-behind, ahead-word, counter-lt, counter-word}
use Rattle.memory.specs.declared.Board.{Board}
use Rattle.memory.specs.Memory.{Memory, memory_of, limit}
use Rattle.registers.specs.State.{State, state}
use Rattle.registers.specs.Registers.{arrives}
use Rattle.processing.specs.Processing.{processed, by_register?}
use Rattle.multiply.specs.Multiply.{rs_of, multiplied}
use Rattle.multiply.specs.InternalCycles.{m_of}
use Rattle.multiply.proofs.InternalCycles.{m-bounds}
use Rattle.transfer.specs.Block as block
use Rattle.semantics.specs.Branch.{branched}
use Rattle.semantics.specs.Duration.{own_steps, refills, stores_counter}
use Rattle.semantics.proofs.StoredCounters.{arriving, processed-refills}
use Rattle.condition.proofs.Comparisons.{comparisons}
use Rattle.runs.proofs.Countdown.{load-refills}
use Rattle.stops.specs.Rules.{rule_broken}
use Rattle.stops.specs.Moves.{moves_of, span}
use Rattle.stops.specs.Stops.{Due, skipped, executes, due, outside, stop_due, stop_for}
use Rattle.stops.proofs.StopOrder.{from-span}
use Rattle.stops.proofs.BrokenRules.{rule-alike}
use Rattle.steps.specs.declared.Phase.{Phase}
use Rattle.steps.specs.declared.Phase.TheVariants.{Step1, Refill1, Refill2, Later}
use Rattle.steps.specs.declared.Ended.TheVariants.{Start, Skipped, Executed}
use Rattle.steps.specs.declared.After.{After}
use Rattle.steps.specs.declared.After.TheVariants.{More, Done, Jump}
use Rattle.steps.specs.declared.Latches.{Latches}
use Rattle.steps.specs.declared.Step.{Step}
use Rattle.cycle.specs.declared.Pipe.{Pipe}
use Rattle.cycle.specs.declared.Counts.{Counts}
use Rattle.memory.specs.Lengths.{most_bytes}
use Rattle.cycle.specs.Machine.{Machine, machine, lent, state_of, pipe}
use Rattle.steps.specs.Steps.{Own, own, ends, still, last, multiply_last, next_to_move, first_step, later_step, load_later, store_later, load_step, block_load_later, store_step, block_store_later, multiply_later}
use Rattle.cycle.specs.Cycle.{cycle, first_due, own_of, fetches, pipe_after, phase_after, retired_by}
use Rattle.cycle.specs.StopFound.{is_step1, stop_found}
use Rattle.refusals.specs.Numbers.{left_to_move, state_later, bad_within, bad_step, never, bad_refill, bad_phase}
use Rattle.semantics.proofs.Both.{or-false}
use Rattle.pipeline.proofs.Keeps.{own-keeps}
use Rattle.semantics.proofs.Quiet.{Quiet, quietly, names-some}
use Rattle.runs.proofs.Instruction.{extra, own-steps, drop-count}

-- what the test says of step j + 2 of an instruction, in the registers as they stand
pub record Mid (i : Instruction) (j : ℕ) (g : List ℕ) (address : ℕ) (board : Board) : Type 0 where
  pub known : is_other i ≡ false
  pub allowed : (s : State) → eqb (rule_broken i s) 0 ≡ true
  pub has : j < extra i g
  pub inside : outside (span (left_to_move i j) address) board ≡ false

-- ---- refills

-- a word that passes its condition at some flags has not the one that never does
named : (w f : ℕ) → passes (field w 28 4) f ≡ true → eqb (field w 28 4) never ≡ false
named w f h = go (eqb (field w 28 4) never) refl
  where
    go : (b : Bool) → eqb (field w 28 4) never ≡ b → b ≡ false
    go true e = absurd (false≢true (sym (comparisons.never_passes f) ∙ ap (λ c. passes c f) (sym (eqb-true (field w 28 4) never e)) ∙ h))
    go false e = refl

stored-fine : (w : ℕ) (m : Machine) → eqb (field w 28 4) never ≡ false → stores_counter (read_of w) ≡ true → eqb (rule_broken (read_of w) (state_later m)) 0 ≡ true
    → bad_refill (Some w) m ≡ false
stored-fine w m c s r = rw (c, s, r)

-- the words alone are tested
pub refill-alike : (x : Option ℕ) (m k : Machine) → bad_refill x m ≡ bad_refill x k
refill-alike None m k = refl
refill-alike (Some w) m k = rw (rule-alike (read_of w) (state_later m) (state_later k))

-- ---- steps

-- a rule that is broken in no state
in-every : (i : Instruction) (s : State) → eqb (rule_broken i s) 0 ≡ true → (t : State) → eqb (rule_broken i t) 0 ≡ true
in-every i s e t = rw (rule-alike i t s) e

module _ (i : Instruction) (j : ℕ) (m : Machine) where
  abbrev own-count : ℕ
  own-count = own_steps i m.registers

  pub to-mid : bad_within i j m ≡ false → Mid i j m.registers m.control.latches.address m.control.board
  unfolding bad_within
  to-mid e =
      let b = or-false (is_other i) e in
      let c = or-false (not (eqb (rule_broken i (state_later m)) 0)) b.1 in
      let d = or-false (not (ltb (suc j) own-count)) c.1 in
      let h : suc j < own-count = ltb-true _ _ (not-false (ltb (suc j) own-count) d.0) in
      record {
        known = b.0;
        allowed = in-every i (state_later m) (not-false (eqb (rule_broken i (state_later m)) 0) c.0);
        has = omega (arith, own-steps i m.registers);
        inside = d.1;
      }

  of-mid : Mid i j m.registers m.control.latches.address m.control.board → bad_within i j m ≡ false
  unfolding bad_within
  of-mid k =
      let h : suc j < own-count = omega (arith, own-steps i m.registers, k.has) in
      rw (k.known, k.allowed (state_later m), lt-ltb (suc j) own-count h, k.inside)

-- the same of what a cycle leaves: where the instruction goes on, the flags are as they were; where it stored the counter, it can
abbrev Ok : Instruction → ℕ → Board → Own → After → Type 0
Ok i f n o (More Step1) = Unit {0}
Ok i f n o (More Refill1) = ⊥
Ok i f n o (More Refill2) = ⊥
Ok i f n o (More (Later j)) = Mid i j o.registers o.step.latches.address n × (o.step.flags ≡ f)
Ok i f n o (Done k) = Unit {0}
Ok i f n o (Jump w) = (stores_counter i ≡ true) × ((s : State) → eqb (rule_broken i s) 0 ≡ true)

abbrev OkOwn : Instruction → ℕ → Board → Own → Type 0
OkOwn i f n o = Ok i f n o o.step.after

ends-ok : (i : Instruction) (f : ℕ) (n : Board) (o : Own) (e : Option ℕ) → refills e ≡ pick (stores_counter i) 2 0 → ((s : State) → eqb (rule_broken i s) 0 ≡ true)
    → Ok i f n o (ends e)
ends-ok i f n o None h a = tt
ends-ok i f n o (Some w) h a = (go (stores_counter i) h, a)
  where
    go : (b : Bool) → refills (Some w) ≡ pick b 2 0 → b ≡ true
    go true e = refl
    go false e = absurd (omega arith)

-- one word moved, and the rest is inside; addresses inside do not wrap
first-inside : (m a : ℕ) (n : Board) → outside (span (suc m) a) n ≡ false → (a < limit n) × (outside (span m (a + 4)) n ≡ false)
first-inside m a n e =
    let o = or-false (not (ltb a (limit n))) e in
    (ltb-true a (limit n) (not-false (ltb a (limit n)) o.0), o.1)

module _ (n : Board) (short : n.size ≤ most_bytes) where
  next-inside : (m a : ℕ) → outside (span (suc m) a) n ≡ false → outside (span m (block.next a)) n ≡ false
  unfolding limit
  next-inside m a e =
      let o = first-inside m a n e in
      let s : block.next a ≡ a + 4 = mod-eq_of_lt (omega (arith, o.0)) in
      rw s o.1

  rest-inside : (ys : List ℕ) (a : ℕ) → outside (span (suc (length ys)) a) n ≡ false → outside (span (length ys) (next_to_move ys a)) n ≡ false
  rest-inside [] a e = refl
  rest-inside (y ∷ ys) a e = next-inside (length (y ∷ ys)) a e

  single-has : (i : Single) (g : List ℕ) → 0 < extra (Instruction.Single i) g
  single-has i g = go i.l
    where
      go : (b : Bool) → 0 < pick b 2 1
      go true = omega arith
      go false = omega arith

  block-has : (i : Block) (j : ℕ) (g : List ℕ) → j < block.count i → j < extra (Instruction.Block i) g
  block-has i j g h = go i.l
    where
      go : (b : Bool) → j < pick b (suc (block.count i)) (block.count i)
      go true = omega arith
      go false = omega arith

  first-ok : (i : Instruction) (s : State) (pc : ℕ) → s.memory.board ≡ n → Quiet i s → ahead s.a 8 ≡ pc
      → OkOwn i s.status n (first_step i s.registers s.status pc s.memory)
  unfolding first_step moves_of
  first-ok (Instruction.Processing i) s pc b q e = go (by_register? i.operand) refl
    where
      go : (t : Bool) → by_register? i.operand ≡ t → OkOwn (Instruction.Processing i) s.status n (first_step (Instruction.Processing i) s.registers s.status pc s.memory)
      go true t = rw t (record { known = refl; allowed = in-every _ s q.allowed; has = rw t (omega arith); inside = refl }, refl)
      go false t = rw t (ends-ok (Instruction.Processing i) s.status n (last (processed i s.registers s.status pc) s.memory) (processed i s.registers s.status pc).goes (processed-refills i s.registers s.status pc) (in-every _ s q.allowed))
  first-ok (Instruction.Single i) s pc b q e =
      (record { known = refl; allowed = in-every _ s q.allowed; has = single-has i s.registers; inside = rw (e, b) at q.inside }, refl)
  first-ok (Instruction.Block i) s pc b q e =
      let d = names-some i s q.allowed in
      let c : block.count i ≡ suc (length d.1) = ap length d.2 in
      let z : block.count i - 0 ≡ block.count i = omega arith in
      let inside = rw (from-span (block.named i.list) (block.lowest_address i s.registers), b) at q.inside in
      (record { known = refl; allowed = in-every _ s q.allowed; has = block-has i 0 s.registers (omega arith); inside = rw z inside }, refl)
  first-ok (Instruction.Branch i) s pc b q e =
      ends-ok (Instruction.Branch i) s.status n (last (branched i s.registers s.status (behind pc 8)) s.memory) (branched i s.registers s.status (behind pc 8)).goes
      (unfold branched stores_counter in refl) (in-every _ s q.allowed)
  first-ok (Instruction.Multiply i) s pc b q e =
      (record { known = refl; allowed = in-every _ s q.allowed; has = (m-bounds (rs_of i s.registers)).0; inside = refl }, refl)
  first-ok (Instruction.Other w) s pc b q e = tt

  load-extra : (i : Block) (g : List ℕ) → i.l ≡ true → extra (Instruction.Block i) g ≡ suc (block.count i)
  load-extra i g e = ap (λ b. pick b (suc (block.count i)) (block.count i)) e

  load_ok : (i : Block) → i.l ≡ true → (k : ℕ) (g : List ℕ) (f : ℕ) (l : Latches) (mem : Memory) → Mid (Instruction.Block i) (suc k) g l.address n
      → (r : List ℕ) → drop k (block.named i.list) ≡ r → OkOwn (Instruction.Block i) f n (load_step k r g f l mem)
  unfolding load_step
  load_ok i e k g f l mem m [] d = tt
  load_ok i e k g f l mem m (x ∷ []) d = ends-ok (Instruction.Block i) f n (load_step k (x ∷ []) g f l mem) (arrives g f x l.datum).goes
      (load-refills i k x g f l.datum mem d ∙ unfold stores_counter in ap (λ b. pick (b && bit i.list 15) 2 0) (sym e)) m.allowed
  load_ok i e k g f l mem m (x ∷ (y ∷ ys)) d =
      let c = drop-count (block.named i.list) k x (y ∷ ys) d in
      let now : block.count i - suc k ≡ suc (length ys) = omega (arith, c) in
      let after : block.count i - suc (suc k) ≡ length ys = omega (arith, c) in (
        record {
          known = refl;
          allowed = m.allowed;
          has = omega (arith, c, load-extra i g e);
          inside = rw after (rest-inside ys l.address (rw now at m.inside));
        },
        refl,
      )

  store_ok : (i : Block) (k : ℕ) (g : List ℕ) (f pc : ℕ) (l : Latches) (mem : Memory) {h : List ℕ} → Mid (Instruction.Block i) k h l.address n
      → (r : List ℕ) → drop k (block.named i.list) ≡ r → OkOwn (Instruction.Block i) f n (store_step k r g f pc l mem)
  unfolding store_step
  store_ok i k g f pc l mem m [] d = tt
  store_ok i k g f pc l mem m (x ∷ []) d = tt
  store_ok i k g f pc l mem m (x ∷ (y ∷ ys)) d =
      let c = drop-count (block.named i.list) k x (y ∷ ys) d in
      let now : block.count i - k ≡ suc (suc (length ys)) = omega (arith, c) in
      let after : block.count i - suc k ≡ suc (length ys) = omega (arith, c) in (
        record {
          known = refl;
          allowed = m.allowed;
          has = block-has i (suc k) g (omega (arith, c));
          inside = rw after (next-inside (suc (length ys)) l.address (rw now at m.inside));
        },
        refl,
      )

  block-load-ok : (i : Block) → i.l ≡ true → (k : ℕ) (g : List ℕ) (f : ℕ) (l : Latches) (mem : Memory) → Mid (Instruction.Block i) k g l.address n
      → OkOwn (Instruction.Block i) f n (block_load_later i k g f l mem)
  unfolding block_load_later
  block-load-ok i e zero g f l mem m =
      let d = names-some i _ (m.allowed (state [] 0 0 (memory_of n []))) in
      let c : block.count i ≡ suc (length d.1) = ap length d.2 in
      let now : block.count i - 0 ≡ suc (length d.1) = omega arith in
      let after : block.count i - 1 ≡ length d.1 = omega arith in (
        record {
          known = refl;
          allowed = m.allowed;
          has = omega (arith, load-extra i g e);
          inside = rw (after, d.2) (rest-inside d.1 l.address (rw now at m.inside));
        },
        refl,
      )
  block-load-ok i e (suc k) g f l mem m = load_ok i e k g f l mem m (drop k (block.named i.list)) refl

  block-store-ok : (i : Block) (k : ℕ) (g : List ℕ) (f pc : ℕ) (l : Latches) (mem : Memory) → Mid (Instruction.Block i) k g l.address n
      → OkOwn (Instruction.Block i) f n (block_store_later i k g f pc l mem)
  unfolding block_store_later
  block-store-ok i zero g f pc l mem m = store_ok i 0 _ f pc l mem m (block.named i.list) refl
  block-store-ok i (suc k) g f pc l mem m = store_ok i (suc k) g f pc l mem m (drop (suc k) (block.named i.list)) refl

  single-load-ok : (i : Single) → i.l ≡ true → (k : ℕ) (g : List ℕ) (f : ℕ) (l : Latches) (mem : Memory) → Mid (Instruction.Single i) k g l.address n
      → OkOwn (Instruction.Single i) f n (load_later i k g f l mem)
  unfolding load_later
  single-load-ok i e zero g f l mem m =
      let x : extra (Instruction.Single i) g ≡ 2 = ap (λ b. pick b 2 1) e in
      (record { known = refl; allowed = m.allowed; has = omega arith; inside = refl }, refl)
  single-load-ok i e (suc k) g f l mem m = ends-ok (Instruction.Single i) f n (load_later i (suc k) g f l mem) (arrives g f i.rd l.datum).goes
      (arriving g f i.rd l.datum ∙ unfold stores_counter in ap (λ b. pick (b && not (ltb i.rd 15)) 2 0) (sym e)) m.allowed

  -- steps 2 to m of a multiply leave the registers, and so m
  multiply-ok : (i : Multiply) (k : ℕ) (g : List ℕ) (f : ℕ) (mem : Memory) {address : ℕ} → Mid (Instruction.Multiply i) k g address n
      → OkOwn (Instruction.Multiply i) f n (multiply_later i k g f mem)
  unfolding multiply_later
  multiply-ok i k g f mem m = go (ltb (suc k) (m_of (rs_of i g))) refl
    where
      go : (b : Bool) → ltb (suc k) (m_of (rs_of i g)) ≡ b
          → OkOwn (Instruction.Multiply i) f n (pick b (own g (still f (More (Later (suc k)))) mem) (multiply_last (m_of (rs_of i g)) (multiplied i g f) mem))
      go true e = (record { known = refl; allowed = m.allowed; has = ltb-true _ _ e; inside = refl }, refl)
      go false e = tt

  later-ok : (i : Instruction) (k : ℕ) (g : List ℕ) (f pc : ℕ) (l : Latches) (mem : Memory) → Mid i k g l.address n → OkOwn i f n (later_step i k g f pc l mem)
  unfolding later_step
  later-ok (Instruction.Processing i) k g f pc l mem m = ends-ok (Instruction.Processing i) f n (last (processed i g f pc) mem) (processed i g f pc).goes (processed-refills i g f pc) m.allowed
  later-ok (Instruction.Single i) k g f pc l mem m = go i.l refl
    where
      go : (b : Bool) → i.l ≡ b → OkOwn (Instruction.Single i) f n (pick b (load_later i k g f l mem) (store_later i g f l mem))
      go true e = single-load-ok i e k g f l mem m
      go false e = unfold store_later in tt
  later-ok (Instruction.Block i) k g f pc l mem m = go i.l refl
    where
      go : (b : Bool) → i.l ≡ b → OkOwn (Instruction.Block i) f n (pick b (block_load_later i k g f l mem) (block_store_later i k g f pc l mem))
      go true e = block-load-ok i e k g f l mem m
      go false e = block-store-ok i k g f pc l mem m
  later-ok (Instruction.Branch i) k g f pc l mem m = tt
  later-ok (Instruction.Multiply i) k g f pc l mem m = multiply-ok i k g f mem m
  later-ok (Instruction.Other w) k g f pc l mem m = tt

  -- what is fine for the instruction of the word in IX is fine for the record
  of-ok : (w : ℕ) (o : Own) (e : After) (p : Pipe) (f : ℕ) (m : Machine) → p.ix ≡ Some w → passes (field w 28 4) f ≡ true → Ok (read_of w) f n o e
      → m.control.pipe.ix ≡ (pipe_after e p).ix → m.control.flags ≡ o.step.flags → m.control.latches.address ≡ o.step.latches.address
      → m.control.board ≡ n → m.registers ≡ o.registers
      → bad_phase (phase_after e) m ≡ false
  unfolding due
  of-ok w o (More Step1) p f m x ps ok i fl a b rg = refl
  of-ok w o (More Refill1) p f m x ps ok i fl a b rg = absurd ok
  of-ok w o (More Refill2) p f m x ps ok i fl a b rg = absurd ok
  of-ok w o (More (Later j)) p f m x ps ok i fl a b rg =
      let d : due m.control.pipe.ix m.control.flags ≡ executes (read_of w) = rw (i ∙ x, fl ∙ ok.1, ps) in
      ap (λ (y : Due). bad_step y j m) d ∙ of-mid (read_of w) j m (rw (a, b, rg) ok.0)
  of-ok w o (Done k) p f m x ps ok i fl a b rg = refl
  of-ok w o (Jump v) p f m x ps ok i fl a b rg = ap (λ (y : Option ℕ). bad_refill y m) (i ∙ x) ∙ stored-fine w m (named w f ps) ok.0 (ok.1 (state_later m))

  -- the phase that a cycle leaves, of a core in its parts
  module _ (g : List ℕ) (f pc : ℕ) (ir1 ir2 : Option ℕ) (l : Latches) (cs : Counts) (q : ℕ) (mem : List ℕ) where
    abbrev core : Phase → Option ℕ → Machine
    core ph x = machine g (record { flags = f; pipe = pipe pc ir1 ir2 x; phase = ph; latches = l; counts = cs; stop = q; board = n }) mem

    abbrev step_of : Phase → Option ℕ → Step
    step_of ph x = (own_of ph (core ph x)).step

    own-fine : (ph : Phase) (x : Option ℕ) → bad_phase ph (core ph x) ≡ false → pick (is_step1 ph) (stop_for x (state_of (core ph x))) 0 ≡ 0 → pc < counters → (m : Machine)
        → m.control.pipe.ix ≡ (pipe_after (step_of ph x).after (fetches ph (core ph x).control.pipe (lent (core ph x)))).ix
        → m.control.flags ≡ (step_of ph x).flags → m.control.latches.address ≡ (step_of ph x).latches.address → m.control.board ≡ n
        → m.registers ≡ (own_of ph (core ph x)).registers
        → bad_phase (phase_after (step_of ph x).after) m ≡ false
    unfolding own_of due stop_for
    own-fine Refill1 x b z r m i fl ad bd rg = ap (λ (y : Option ℕ). bad_refill y m) i ∙ refill-alike x m (core Refill1 x) ∙ b
    own-fine Refill2 x b z r m i fl ad bd rg = refl
    own-fine Step1 None b z r m i fl ad bd rg = refl
    own-fine Step1 (Some w) b z r m i fl ad bd rg = go (passes (field w 28 4) f) refl z i fl ad rg
      where
        s : State
        s = state_of (core Step1 (Some w))

        o : Bool → Own
        o t = first_due (pick t (executes (read_of w)) skipped) (core Step1 (Some w))

        go : (t : Bool) → passes (field w 28 4) f ≡ t → stop_due (pick t (executes (read_of w)) skipped) s ≡ 0
            → m.control.pipe.ix ≡ (pipe_after (o t).step.after (fetches Step1 (core Step1 (Some w)).control.pipe (lent (core Step1 (Some w))))).ix
            → m.control.flags ≡ (o t).step.flags → m.control.latches.address ≡ (o t).step.latches.address
            → m.registers ≡ (o t).registers
            → bad_phase (phase_after (o t).step.after) m ≡ false
        go true ps z i fl ad rg =
            of-ok w (o true) (o true).step.after (fetches Step1 (core Step1 (Some w)).control.pipe (lent (core Step1 (Some w)))) f m refl ps
            (first-ok (read_of w) s pc refl (quietly (read_of w) s z) (ahead-behind pc r)) i fl ad bd rg
        go false ps z i fl ad rg = refl
    own-fine (Later k) None b z r m i fl ad bd rg = refl
    own-fine (Later k) (Some w) b z r m i fl ad bd rg = go (passes (field w 28 4) f) refl b
      where
        go : (t : Bool) → passes (field w 28 4) f ≡ t → bad_step (pick t (executes (read_of w)) skipped) k (core (Later k) (Some w)) ≡ false
            → bad_phase (phase_after (step_of (Later k) (Some w)).after) m ≡ false
        go true ps b =
            of-ok w (own_of (Later k) (core (Later k) (Some w))) (step_of (Later k) (Some w)).after (core (Later k) (Some w)).control.pipe f m refl ps
            (later-ok (read_of w) k g f pc l _ (to-mid (read_of w) k (core (Later k) (Some w)) b)) i fl ad bd rg
        go false ps b = absurd (false≢true (sym b))

-- ---- the counter and the counts

-- a counter value
abbrev Counter : ℕ → Type 0
Counter pc = (pc < counters) × (pc % 4 ≡ 0)

fetched-counter : (ph : Phase) (p : Pipe) (mem : Memory) → Counter p.pc → Counter (fetches ph p mem).pc
fetched-counter Step1 p mem h = (ahead-lt p.pc 4, ahead-word p.pc h.1)
fetched-counter Refill1 p mem h = (ahead-lt p.pc 4, ahead-word p.pc h.1)
fetched-counter Refill2 p mem h = (ahead-lt p.pc 4, ahead-word p.pc h.1)
fetched-counter (Later k) p mem h = h

pipe-counter : (e : After) (p : Pipe) → Counter p.pc → Counter (pipe_after e p).pc
pipe-counter (More ph) p h = h
pipe-counter (Done n) p h = h
pipe-counter (Jump w) p h = (counter-lt w, counter-word w)

retired-counts : (e : After) (k c : ℕ) → k ≤ c → retired_by e k ≤ suc c
retired-counts (More ph) k c h = omega arith
retired-counts (Done Start) k c h = omega arith
retired-counts (Done Skipped) k c h = omega arith
retired-counts (Done (Executed m)) k c h = omega arith
retired-counts (Jump w) k c h = omega arith

-- a core whose record is not bad but for its cycles and sums, with no stop held
pub record Sound (m : Machine) : Type 0 where
  pub short : m.control.board.size ≤ most_bytes
  pub range : m.control.pipe.pc < counters
  pub aligned : m.control.pipe.pc % 4 ≡ 0
  pub flags : m.control.flags < 16
  pub counts : m.control.counts.retired ≤ m.control.counts.cycles
  pub fine : bad_phase m.control.phase m ≡ false

pub cycle-sound : (m : Machine) → Sound m → stop_found m ≡ 0 → Sound (cycle m)
unfolding cycle stop_found
cycle-sound m s z =
    let c = m.control in
    let e = (own_of c.phase m).step.after in
    let pc = pipe-counter e (fetches c.phase c.pipe (lent m)) (fetched-counter c.phase c.pipe (lent m) (s.range, s.aligned)) in
    record {
      short = s.short;
      range = pc.0;
      aligned = pc.1;
      flags = (own-keeps c.phase m).2 s.flags;
      counts = retired-counts e c.counts.retired c.counts.cycles s.counts;
      fine = own-fine c.board s.short m.registers c.flags c.pipe.pc c.pipe.ir1 c.pipe.ir2 c.latches c.counts c.stop m.memory c.phase c.pipe.ix
          s.fine z s.range (cycle m) refl refl refl refl refl;
    }
