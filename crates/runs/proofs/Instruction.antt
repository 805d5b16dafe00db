-- The instruction lemma: from a boundary, the cycles of an instruction come to the next boundary.
-- Assumes nothing.
use Rattle.std.specs.Prelude.{Option, ℕ, Some, None}
use Prim.Native.Nat.{ℕ, zero, suc, ◌+◌, ◌-◌, ◌*◌, ◌^◌, ◌≤◌, ◌<◌}
use mathlib.Core.Path.{◌≡◌, refl, sym, ap, ◌∙◌}
use mathlib.Core.List.{List, [], ◌∷◌}
use mathlib.Core.Bool.{Bool, true, false}
use mathlib.Core.Logic.{◌≢◌}
use native.Mathlib.Omega.{arith}
use lib.ListN.{length, get_or, drop}
use borrow.Author.Tests.{leb-false, lt-ltb, le-ltb}
use Rattle.bits.specs.Choice.{pick}
use Rattle.bits.specs.Bits.{field}
use Rattle.word.specs.declared.Processing.{Processing}
use Rattle.word.specs.declared.Single.{Single}
use Rattle.word.specs.declared.Block.{Block}
use Rattle.word.specs.declared.Branch.{Branch}
use Rattle.word.specs.declared.Multiply.{Multiply}
use Rattle.word.specs.declared.Instruction.{Instruction}
use Rattle.word.specs.Reader.{read_of}
use Rattle.condition.specs.Condition.{passes}
use Rattle.datapath.specs.Counter.{ahead, counters}
use Rattle.memory.specs.declared.Board.{Board}
use Rattle.memory.specs.Memory.{Memory, limit, word_at, read_word, write_word}
use Rattle.registers.specs.State.{State, state}
use Rattle.registers.specs.Registers.{out, put, arrives}
use Rattle.processing.specs.Processing.{processed, by_register?}
use Rattle.multiply.specs.Multiply.{rs_of, multiplied}
use Rattle.multiply.specs.InternalCycles.{m_of}
use Rattle.multiply.proofs.InternalCycles.{m-bounds}
use Rattle.transfer.specs.Single as single
use Rattle.transfer.specs.Block as block
use Rattle.transfer.proofs.Lengths.{stored-to-alike}
use Rattle.semantics.specs.Branch.{branched}
use Rattle.semantics.specs.Effect.{Effect, effect, effect_of, load_effect, store_effect, block_load_effect, block_store_effect}
use Rattle.semantics.specs.Duration.{own_steps, refills, next_address}
use Rattle.stops.specs.Moves.{moves_from, moves_of, addresses, stored_by, span}
use Rattle.stops.specs.Stops.{Due, no_word_there, skipped, executes, due, outside, hits, stop_for}
use Rattle.semantics.proofs.Quiet.{Quiet, quietly, names-some}
use Rattle.stops.proofs.StopOrder.{from-span}
use Rattle.stops.proofs.Spans.{last_decides}
use Rattle.datapath.proofs.Counters.{behind-ahead}
use Rattle.steps.specs.declared.Phase.TheVariants.{Step1, Later}
use Rattle.steps.specs.declared.Latches.{Latches}
use Rattle.memory.specs.Lengths.{most_bytes}
use Rattle.semantics.specs.declared.Sums.{Sums}
use Rattle.semantics.specs.Sums.{no_sums, skipped_sums, sums_of, m_in}
use Rattle.cycle.specs.declared.Counts.{Counts}
use Rattle.cycle.specs.Machine.{Machine, pipe}
use Rattle.steps.specs.Steps.{latches, own, on, idle, first_step, later_step, load_later, store_later, load_step, block_load_later, store_step, block_store_later, multiply_later, next_to_move}
use Rattle.cycle.specs.Cycle.{cycle, own_of}
use Rattle.runs.specs.Boundary.{boundary, lead}
use Rattle.runs.proofs.FetchedAhead.{single-kept, stores-all-kept}
use Rattle.runs.proofs.Flight.{Flight, climb, more, in_flight, at, at_cycle, retiring, plain_at, turn12, land, Keeps, land-stored, land-on}

-- a core about to do step 1 of x at a
abbrev pub begin : Option ℕ → State → Counts → Machine
begin x s n = at s.registers s.status (pipe (ahead s.a 8) (word_at s.memory (ahead s.a 4)) x x) Step1 idle n s.memory

-- the steps after the first, by the registers before it
abbrev pub extra : Instruction → List ℕ → ℕ
extra (Instruction.Processing i) g = pick (by_register? i.operand) 1 0
extra (Instruction.Single i) g = pick i.l 2 1
extra (Instruction.Block i) g = pick i.l (suc (block.count i)) (block.count i)
extra (Instruction.Branch i) g = 0
extra (Instruction.Multiply i) g = m_of (rs_of i g)
extra (Instruction.Other w) g = 0

pub own-steps : (i : Instruction) (g : List ℕ) → own_steps i g ≡ suc (extra i g)
unfolding own_steps
own-steps (Instruction.Processing i) g = go (by_register? i.operand)
  where
    go : (b : Bool) → pick b 2 1 ≡ suc (pick b 1 0)
    go true = refl
    go false = refl
own-steps (Instruction.Single i) g = go i.l
  where
    go : (b : Bool) → pick b 3 2 ≡ suc (pick b 2 1)
    go true = refl
    go false = refl
own-steps (Instruction.Block i) g = go i.l
  where
    go : (b : Bool) → pick b (block.count i + 2) (block.count i + 1) ≡ suc (pick b (suc (block.count i)) (block.count i))
    go true = omega arith
    go false = omega arith
own-steps (Instruction.Branch i) g = refl
own-steps (Instruction.Multiply i) g = refl
own-steps (Instruction.Other w) g = refl

-- what an effect leaves of a state
abbrev pub leaves : State → Effect → State
leaves s e = state e.out.registers e.out.flags (next_address s.a e.out.goes) e.memory

-- a flight after step 1 of x: j more steps, to what e leaves and q adds
abbrev pub FliesTo : Option ℕ → State → Counts → ℕ → Effect → Sums → Type 0
FliesTo x s n j e q =
    Flight n 3 (more j (refills e.out.goes)) (cycle (begin x s n))
    (boundary (plain_at (leaves s e)) (retiring (climb (more j (refills e.out.goes)) (suc n.cycles)) q n))

skips-on : (w : ℕ) (s : State) (n : Counts) → passes (field w 28 4) s.status ≡ false
    → cycle (begin (Some w) s n) ≡ boundary (plain_at (state s.registers s.status (ahead s.a 4) s.memory)) (retiring (suc n.cycles) skipped_sums n)
unfolding cycle own_of due
skips-on w s n p = rw (p, turn12 s.a) (land-stored s.registers s.status w s.a (retiring (suc n.cycles) skipped_sums n) s.memory s.memory (refl, refl))

pub drop-next : (l : List ℕ) (i : ℕ) {x : ℕ} {xs : List ℕ} → drop i l ≡ x ∷ xs → drop (suc i) l ≡ xs
drop-next [] zero d = cc
drop-next [] (suc i) d = cc
drop-next (y ∷ ys) zero d = cc
drop-next (y ∷ ys) (suc i) d = drop-next ys i d

pub drop-count : (l : List ℕ) (i x : ℕ) (xs : List ℕ) → drop i l ≡ x ∷ xs → length l ≡ i + suc (length xs)
drop-count l zero x xs e = rw e (omega arith)
drop-count [] (suc i) x xs e = cc
drop-count (y ∷ ys) (suc i) x xs e = omega (arith, drop-count ys i x xs e)

-- a base latch is 0 where no step writes the base
single-base : (i : Single) (g : List ℕ) (b : ℕ) → single.with_base i g (pick (single.writes_base i) b 0) ≡ single.with_base i g b
unfolding single.with_base
single-base i g b = go (single.writes_base i)
  where
    go : (t : Bool) → pick t (put g i.rn (pick t b 0)) g ≡ pick t (put g i.rn b) g
    go true = refl
    go false = refl

block-base : (i : Block) (g : List ℕ) (b : ℕ) → block.with_base i g (pick i.w b 0) ≡ block.with_base i g b
unfolding block.with_base
block-base i g b = go i.w
  where
    go : (t : Bool) → pick t (put g i.rn (pick t b 0)) g ≡ pick t (put g i.rn b) g
    go true = refl
    go false = refl

-- ---- the steps of a transfer, by whether it loads

module _ (i : Single) (g : List ℕ) (f : ℕ) where
  load-first : (pc : ℕ) (mem : Memory) → i.l ≡ true
      → first_step (Instruction.Single i) g f pc mem ≡ own g (on f (latches (single.address_of i g f pc) 0 (pick (single.writes_base i) (single.changed_base i g f pc) 0)) 0) mem
  unfolding first_step
  load-first pc mem l = rw l

  store-first : (pc : ℕ) (mem : Memory) → i.l ≡ false
      → first_step (Instruction.Single i) g f pc mem
      ≡ own g (on f (latches (single.address_of i g f pc) (single.stored_value g i.rd f (ahead pc 4)) (pick (single.writes_base i) (single.changed_base i g f pc) 0)) 0) mem
  unfolding first_step
  store-first pc mem l = rw l

  load-later : (k pc : ℕ) (ls : Latches) (mem : Memory) → i.l ≡ true → later_step (Instruction.Single i) k g f pc ls mem ≡ load_later i k g f ls mem
  unfolding later_step
  load-later k pc ls mem l = ap (λ b. pick b (load_later i k g f ls mem) (store_later i g f ls mem)) l

  store-later : (k pc : ℕ) (ls : Latches) (mem : Memory) → i.l ≡ false → later_step (Instruction.Single i) k g f pc ls mem ≡ store_later i g f ls mem
  unfolding later_step
  store-later k pc ls mem l = ap (λ b. pick b (load_later i k g f ls mem) (store_later i g f ls mem)) l

module _ (i : Single) (s : State) where
  pub load-effect : i.l ≡ true → effect_of (Instruction.Single i) s ≡ load_effect i s
  unfolding effect_of
  load-effect l = ap (λ b. pick b (load_effect i s) (store_effect i s)) l

  pub store-effect : i.l ≡ false → effect_of (Instruction.Single i) s ≡ store_effect i s
  unfolding effect_of
  store-effect l = ap (λ b. pick b (load_effect i s) (store_effect i s)) l

module _ (i : Block) (g : List ℕ) (f : ℕ) where
  block-load-first : (pc : ℕ) (mem : Memory) → i.l ≡ true
      → first_step (Instruction.Block i) g f pc mem ≡ own g (on f (latches (block.lowest_address i g) 0 (pick i.w (block.changed_base i g) 0)) 0) mem
  unfolding first_step
  block-load-first pc mem l = rw l

  block-store-first : (pc : ℕ) (mem : Memory) → i.l ≡ false
      → first_step (Instruction.Block i) g f pc mem
      ≡ own g (on f (latches (block.lowest_address i g) (single.stored_value g (get_or (block.named i.list) 0 16) f (ahead pc 4)) (pick i.w (block.changed_base i g) 0)) 0) mem
  unfolding first_step
  block-store-first pc mem l = rw l

  block-load-later : (k pc : ℕ) (ls : Latches) (mem : Memory) → i.l ≡ true → later_step (Instruction.Block i) k g f pc ls mem ≡ block_load_later i k g f ls mem
  unfolding later_step
  block-load-later k pc ls mem l = ap (λ b. pick b (block_load_later i k g f ls mem) (block_store_later i k g f pc ls mem)) l

  block-store-later : (k pc : ℕ) (ls : Latches) (mem : Memory) → i.l ≡ false → later_step (Instruction.Block i) k g f pc ls mem ≡ block_store_later i k g f pc ls mem
  unfolding later_step
  block-store-later k pc ls mem l = ap (λ b. pick b (block_load_later i k g f ls mem) (block_store_later i k g f pc ls mem)) l

module _ (i : Block) (s : State) where
  pub block-load-effect : i.l ≡ true → effect_of (Instruction.Block i) s ≡ block_load_effect i s
  unfolding effect_of
  block-load-effect l = ap (λ b. pick b (block_load_effect i s) (block_store_effect i s)) l

  pub block-store-effect : i.l ≡ false → effect_of (Instruction.Block i) s ≡ block_store_effect i s
  unfolding effect_of
  block-store-effect l = ap (λ b. pick b (block_load_effect i s) (block_store_effect i s)) l

module _ (w : ℕ) (s : State) (n : Counts) (ps : passes (field w 28 4) s.status ≡ true) where
  abbrev g : List ℕ
  g = s.registers

  abbrev f : ℕ
  f = s.status

  abbrev a : ℕ
  a = s.a

  abbrev mem : Memory
  mem = s.memory

  -- the flight after step 1 of an instruction
  abbrev Flies : Instruction → Type 0
  Flies i = FliesTo (Some w) s n (extra i g) (effect_of i s) (sums_of i (m_in i g))

  -- what it adds where it is no multiply
  adding : {i : Instruction} → read_of w ≡ i → sums_of (read_of w) 0 ≡ sums_of i 0
  adding e = ap (λ (x : Instruction). sums_of x 0) e

  -- the steps that the word has, in any registers
  steps : {i : Instruction} (h : List ℕ) → read_of w ≡ i → 2 + own_steps (read_of w) h ≡ 3 + extra i h
  steps {i} h e = rw e (omega (arith, own-steps i h))

  simple : (i : Processing) → read_of w ≡ Instruction.Processing i → by_register? i.operand ≡ false → Flies (Instruction.Processing i)
  unfolding cycle own_of due first_step effect_of
  simple i e b =
      let o = processed i g f (ahead a 8) in
      let z = rw b at (steps o.registers e) in
      rw (ps, e, b, turn12 a) (land o.registers o.flags o.goes w a n n.cycles 3 (sums_of (Instruction.Processing i) 0) mem z (adding e))

  shifted : (i : Processing) → read_of w ≡ Instruction.Processing i → by_register? i.operand ≡ true → Flies (Instruction.Processing i)
  unfolding cycle own_of due first_step later_step effect_of lead
  shifted i e b =
      let o = processed i g f (ahead a 12) in
      let z = rw b at (steps o.registers e) in
      rw (ps, e, b, turn12 a) (
        record { off = refl; retired = refl; sums = refl; beyond = refl },
        rw e (land o.registers o.flags o.goes w a n (suc n.cycles) 4 (sums_of (Instruction.Processing i) 0) mem z (adding e)),
      )

  branch : (i : Branch) → read_of w ≡ Instruction.Branch i → a < counters → Flies (Instruction.Branch i)
  unfolding cycle own_of due first_step effect_of
  branch i e r =
      let o = branched i g f a in
      rw (ps, e, behind-ahead a r, turn12 a) (land o.registers o.flags o.goes w a n n.cycles 3 (sums_of (Instruction.Branch i) 0) mem (steps o.registers e) (adding e))

  -- a multiply under way, v cycles after the last boundary's durations: j steps are done after the first, and j' are to follow
  multiplying : (i : Multiply) → read_of w ≡ Instruction.Multiply i → (j' j u v : ℕ) → m_of (rs_of i g) ≡ suc (j + j') → v ≡ 3 + j
      → Flight n v (more (suc j') 0)
      (at g f (in_flight a mem (Some w)) (Later j) idle (at_cycle u n) mem)
      (boundary (plain_at (leaves s (effect (multiplied i g f) mem))) (retiring (climb (more (suc j') 0) u) (sums_of (Instruction.Multiply i) (m_of (rs_of i g))) n))
  unfolding cycle own_of due later_step multiply_later multiplied lead
  multiplying i e zero j u v m c = (
    record { off = refl; retired = refl; sums = refl; beyond = omega arith },
    rw (e, le-ltb (suc j) (m_of (rs_of i g)) (omega arith), e) (land-stored _ _ w a (retiring (suc u) (sums_of (Instruction.Multiply i) (m_of (rs_of i g))) n) mem mem (refl, refl)),
  )
  multiplying i e (suc j') j u v m c = (
    record { off = refl; retired = refl; sums = refl; beyond = omega arith },
    rw (e, lt-ltb (suc j) (m_of (rs_of i g)) (omega arith)) (multiplying i e j' (suc j) (suc u) (suc v) (omega arith) (omega arith)),
  )

  multiply : (i : Multiply) → read_of w ≡ Instruction.Multiply i → Flies (Instruction.Multiply i)
  unfolding cycle own_of due first_step effect_of multiplied
  multiply i e = go (m_of (rs_of i g)) refl
    where
      go : (m : ℕ) → m_of (rs_of i g) ≡ m → FliesTo (Some w) s n m (effect_of (Instruction.Multiply i) s) (sums_of (Instruction.Multiply i) (m_of (rs_of i g)))
      go zero z = absurd (omega (arith, m-bounds (rs_of i g)))
      go (suc j) z = rw (ps, e, turn12 a) (multiplying i e j 0 (suc n.cycles) 3 (z ∙ omega arith) refl)

  load : (i : Single) → read_of w ≡ Instruction.Single i → i.l ≡ true → FliesTo (Some w) s n 2 (load_effect i s) (sums_of (Instruction.Single i) 0)
  unfolding cycle own_of due load_later load_effect lead
  load i e l =
      let o = arrives (single.with_base i g (single.changed_base i g f (ahead a 8))) f i.rd (single.loaded_value i mem (single.address_of i g f (ahead a 8))) in
      let z : 2 + own_steps (read_of w) o.registers ≡ 5 = steps o.registers e ∙ ap (λ b. 3 + pick b 2 1) l in
      rw (ps, e, load-first i g f (ahead a 8) mem l, turn12 a) (
        record { off = refl; retired = refl; sums = refl; beyond = refl },
        rw (e, load-later i g f 0 (ahead a 12) _ _ l, single-base) (
          record { off = refl; retired = refl; sums = refl; beyond = refl },
          rw (e, load-later i _ f 1 (ahead a 12) _ _ l) (land o.registers o.flags o.goes w a n (suc (suc n.cycles)) 5 (sums_of (Instruction.Single i) 0) mem z (adding e)),
        ),
      )

  store : (i : Single) → read_of w ≡ Instruction.Single i → i.l ≡ false → Keeps a mem (store_effect i s).memory
      → FliesTo (Some w) s n 1 (store_effect i s) (sums_of (Instruction.Single i) 0)
  unfolding cycle own_of due store_later store_effect lead
  store i e l h =
      rw (ps, e, store-first i g f (ahead a 8) mem l, turn12 a) (
        record { off = refl; retired = refl; sums = refl; beyond = refl },
        rw (e, store-later i g f 0 (ahead a 12) _ _ l, single-base, e) (land-on _ f w a (retiring (suc (suc n.cycles)) (sums_of (Instruction.Single i) 0) n) mem _ (stored-to-alike i mem _ _).board h),
      )

  -- a block load under way, v cycles after the last boundary's durations: x takes the word at b, and xs are to follow
  loading : (i : Block) → read_of w ≡ Instruction.Block i → i.l ≡ true → (xs : List ℕ) (x j : ℕ) (h : List ℕ) (b u v : ℕ)
      → drop j (block.named i.list) ≡ x ∷ xs → v ≡ 4 + j
      → Flight n v (more (length (x ∷ xs)) (refills (block.loads (x ∷ xs) h f b mem).goes))
      (at h f (in_flight a mem (Some w)) (Later (suc j)) (latches (next_to_move xs b) (read_word mem b) 0) (at_cycle u n) mem)
      (boundary (plain_at (leaves s (effect (block.loads (x ∷ xs) h f b mem) mem)))
      (retiring (climb (more (length (x ∷ xs)) (refills (block.loads (x ∷ xs) h f b mem).goes)) u) (sums_of (Instruction.Block i) 0) n))
  unfolding cycle own_of due block_load_later load_step block.loads lead
  loading i e l [] x j h b u v d c =
      let o = arrives h f x (read_word mem b) in
      let z : 2 + own_steps (read_of w) o.registers ≡ suc v =
      steps o.registers e ∙ ap (λ c. 3 + pick c (suc (block.count i)) (block.count i)) l ∙ omega (arith, drop-count (block.named i.list) j x [] d) in (
        record { off = refl; retired = refl; sums = refl; beyond = omega arith },
        rw (e, block-load-later i h f (suc j) (ahead a 12) _ _ l, d) (land o.registers o.flags o.goes w a n u (suc v) (sums_of (Instruction.Block i) 0) mem z (adding e)),
      )
  loading i e l (y ∷ ys) x j h b u v d c = (
    record { off = refl; retired = refl; sums = refl; beyond = omega arith },
    rw (e, block-load-later i h f (suc j) (ahead a 12) _ _ l, d)
        (loading i e l ys y (suc j) (put h x (read_word mem b)) (block.next b) (suc u) (suc v) (drop-next (block.named i.list) j d) (omega arith)),
  )

  block_load : (i : Block) (x : ℕ) (xs : List ℕ) → read_of w ≡ Instruction.Block i → i.l ≡ true → block.named i.list ≡ x ∷ xs
      → FliesTo (Some w) s n (suc (block.count i)) (block_load_effect i s) (sums_of (Instruction.Block i) 0)
  unfolding cycle own_of due block_load_later block_load_effect lead
  block_load i x xs e l d =
      rw (ps, e, block-load-first i g f (ahead a 8) mem l, turn12 a) (
        record { off = refl; retired = refl; sums = refl; beyond = refl },
        rw (e, block-load-later i g f 0 (ahead a 12) _ _ l, d, block-base)
            (loading i e l xs x 0 (block.with_base i g (block.changed_base i g)) (block.lowest_address i g) (suc (suc n.cycles)) 4 d refl),
      )

  -- a block store under way: x is stored at b, and xs are to follow
  storing : (i : Block) → read_of w ≡ Instruction.Block i → i.l ≡ false → (xs : List ℕ) (x j : ℕ) (h : List ℕ) (b u v : ℕ) (new : Memory)
      → drop (suc j) (block.named i.list) ≡ x ∷ xs → v ≡ 4 + j → Keeps a mem (block.stores (x ∷ xs) h f (ahead a 12) b new)
      → Flight n v (more (length (x ∷ xs)) 0)
      (at h f (in_flight a mem (Some w)) (Later (suc j)) (latches b (single.stored_value h x f (ahead a 12)) 0) (at_cycle u n) new)
      (boundary (plain_at (state h f (ahead a 4) (block.stores (x ∷ xs) h f (ahead a 12) b new))) (retiring (climb (more (length (x ∷ xs)) 0) u) (sums_of (Instruction.Block i) 0) n))
  unfolding cycle own_of due block_store_later store_step block.stores lead
  storing i e l [] x j h b u v new d c ks = (
    record { off = refl; retired = refl; sums = refl; beyond = omega arith },
    rw (e, block-store-later i h f (suc j) (ahead a 12) _ _ l, d, e) (land-stored h f w a (retiring (suc u) (sums_of (Instruction.Block i) 0) n) mem _ ks),
  )
  storing i e l (y ∷ ys) x j h b u v new d c ks = (
    record { off = refl; retired = refl; sums = refl; beyond = omega arith },
    rw (e, block-store-later i h f (suc j) (ahead a 12) _ _ l, d)
        (storing i e l ys y (suc j) h (block.next b) (suc u) (suc v) (write_word new b (single.stored_value h x f (ahead a 12))) (drop-next (block.named i.list) (suc j) d) (omega arith) ks),
  )

  block_store : (i : Block) (x : ℕ) (xs : List ℕ) → read_of w ≡ Instruction.Block i → i.l ≡ false → block.named i.list ≡ x ∷ xs
      → Keeps a mem (block_store_effect i s).memory
      → FliesTo (Some w) s n (block.count i) (block_store_effect i s) (sums_of (Instruction.Block i) 0)
  unfolding cycle own_of due block_store_later store_step block_store_effect block.stores_all block.stores lead
  block_store i x [] e l d ks =
      rw (ps, e, block-store-first i g f (ahead a 8) mem l, turn12 a, d) (
        record { off = refl; retired = refl; sums = refl; beyond = refl },
        rw (e, block-store-later i g f 0 (ahead a 12) _ _ l, d, block-base, e) (land-stored _ f w a (retiring (suc (suc n.cycles)) (sums_of (Instruction.Block i) 0) n) mem _ (rw d at ks)),
      )
  block_store i x (y ∷ ys) e l d ks =
      rw (ps, e, block-store-first i g f (ahead a 8) mem l, turn12 a, d) (
        record { off = refl; retired = refl; sums = refl; beyond = refl },
        rw (e, block-store-later i g f 0 (ahead a 12) _ _ l, d, block-base)
            (storing i e l ys y 0 (block.with_base i g (block.changed_base i g)) (block.next (block.lowest_address i g)) (suc (suc n.cycles)) 4 _ (drop-next (block.named i.list) 0 d) refl (rw d at ks)),
      )

-- ---- what the stores of an instruction that meets no stop leave

-- its addresses do not wrap
pub no_wrap : (m b : ℕ) (board : Board) → outside (span m b) board ≡ false → m ≢ 0 → board.size ≤ most_bytes → b + 4 * m ≤ 2 ^ 32
unfolding limit
no_wrap m b board o z l =
    let h : b + 4 * (m - 1) < board.size = leb-false board.size (b + 4 * (m - 1)) (last_decides m b board z ∙ o) in
    omega arith

-- the two words fetched ahead are not stored to
module _ (s : State) (short : s.memory.board.size ≤ most_bytes) where
  single-keeps : (i : Single) → i.l ≡ false → Quiet (Instruction.Single i) s → Keeps s.a s.memory (store_effect i s).memory
  unfolding store_effect moves_of
  single-keeps i l q =
      let at = single.address_of i s.registers s.status (ahead s.a 8) ∷ [] in
      let clear : (b : ℕ) → hits (stored_by (Instruction.Single i) s) b s.memory.board ≡ false → hits at b s.memory.board ≡ false =
      λ b h. ap (λ t. hits (pick t [] at) b s.memory.board) (sym l) ∙ h in
      (single-kept i s.memory _ _ _ (clear _ q.clear4), single-kept i s.memory _ _ _ (clear _ q.clear8))

  block-keeps : (i : Block) → i.l ≡ false → block.count i ≢ 0 → Quiet (Instruction.Block i) s → Keeps s.a s.memory (block_store_effect i s).memory
  unfolding block_store_effect moves_of
  block-keeps i l z q =
      let xs = block.named i.list in
      let low = block.lowest_address i s.registers in
      let clear : (b : ℕ) → hits (stored_by (Instruction.Block i) s) b s.memory.board ≡ false → hits (span (length xs) low) b s.memory.board ≡ false =
      λ b h. rw (← from-span xs low) (ap (λ t. hits (pick t [] (addresses (moves_from xs low))) b s.memory.board) (sym l) ∙ h) in
      let r = no_wrap (block.count i) low s.memory.board (rw (← from-span xs low) q.inside) z short in
      (stores-all-kept xs _ _ _ _ _ _ s.memory r (clear _ q.clear4), stores-all-kept xs _ _ _ _ _ _ s.memory r (clear _ q.clear8))

-- ---- the instruction lemma

module _ (w : ℕ) (s : State) (n : Counts) (range : s.a < counters) (short : s.memory.board.size ≤ most_bytes) (ps : passes (field w 28 4) s.status ≡ true) where
  done : (i : Instruction) → read_of w ≡ i → Quiet i s → FliesTo (Some w) s n (extra i s.registers) (effect_of i s) (sums_of i (m_in i s.registers))
  done (Instruction.Processing i) e q = go (by_register? i.operand) refl
    where
      go : (b : Bool) → by_register? i.operand ≡ b → FliesTo (Some w) s n (extra (Instruction.Processing i) s.registers) (effect_of (Instruction.Processing i) s) (sums_of (Instruction.Processing i) 0)
      go true b = shifted w s n ps i e b
      go false b = simple w s n ps i e b
  done (Instruction.Single i) e q = go i.l refl
    where
      go : (b : Bool) → i.l ≡ b → FliesTo (Some w) s n (pick b 2 1) (effect_of (Instruction.Single i) s) (sums_of (Instruction.Single i) 0)
      go true l = rw (load-effect i s l) (load w s n ps i e l)
      go false l = rw (store-effect i s l) (store w s n ps i e l (single-keeps s short i l q))
  done (Instruction.Block i) e q = go i.l refl (names-some i s q.allowed)
    where
      go : (b : Bool) → i.l ≡ b → (x : ℕ) × (xs : List ℕ) × (block.named i.list ≡ x ∷ xs)
          → FliesTo (Some w) s n (pick b (suc (block.count i)) (block.count i)) (effect_of (Instruction.Block i) s) (sums_of (Instruction.Block i) 0)
      go true l d = rw (block-load-effect i s l) (block_load w s n ps i d.0 d.1 e l d.2)
      go false l d =
          let z : block.count i ≢ 0 = λ c. let y = ap length (sym d.2) ∙ c in omega arith in
          rw (block-store-effect i s l) (block_store w s n ps i d.0 d.1 e l d.2 (block-keeps s short i l z q))
  done (Instruction.Branch i) e q = branch w s n ps i e range
  done (Instruction.Multiply i) e q = multiply w s n ps i e
  done (Instruction.Other v) e q = absurd (let z : ◌≡◌ {A = ℕ} 0 1 = cc q.known in omega arith)

-- the steps after the first of what is due, and its effect
abbrev pub extra_due : Due → State → ℕ
extra_due no_word_there s = 0
extra_due skipped s = 0
extra_due (executes i) s = extra i s.registers

abbrev pub effect_due : Due → State → Effect
effect_due no_word_there s = effect (out s.registers s.status None) s.memory
effect_due skipped s = effect (out s.registers s.status None) s.memory
effect_due (executes i) s = effect_of i s

-- and what it adds where it is done
abbrev pub sums_done : Due → State → Sums
sums_done no_word_there s = no_sums
sums_done skipped s = skipped_sums
sums_done (executes i) s = sums_of i (m_in i s.registers)

pub flies : (x : Option ℕ) (s : State) (n : Counts) → s.a < counters → s.memory.board.size ≤ most_bytes → stop_for x s ≡ 0
    → FliesTo x s n (extra_due (due x s.status) s) (effect_due (due x s.status) s) (sums_done (due x s.status) s)
unfolding stop_for due
flies None s n r h e = absurd (omega arith)
flies (Some w) s n r h e = go (passes (field w 28 4) s.status) refl
  where
    go : (b : Bool) → passes (field w 28 4) s.status ≡ b
        → FliesTo (Some w) s n (extra_due (due (Some w) s.status) s) (effect_due (due (Some w) s.status) s) (sums_done (due (Some w) s.status) s)
    go true p = rw p (done w s n r h p (read_of w) refl (quietly (read_of w) s (rw p at e)))
    go false p = rw p (skips-on w s n p)
