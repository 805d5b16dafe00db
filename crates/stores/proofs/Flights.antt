-- The stores of whole instructions, and of part of one: the core's are the plain machine's.
-- Assumes nothing.
use Prim.Native.Nat.{ℕ, zero, suc, ◌+◌, ◌≤◌, ◌<◌}
use mathlib.Core.Path.{◌≡◌, refl, sym, ap, ◌∙◌}
use mathlib.Core.List.{List, [], ◌++◌}
use native.Mathlib.Omega.{arith}
use Rattle.std.proofs.lemmas.List.{append-nil, append_assoc}
use Rattle.datapath.specs.Counter.{counters}
use Rattle.memory.specs.Lengths.{most_bytes}
use Rattle.semantics.specs.declared.Sums.{Sums}
use Rattle.semantics.specs.Sums.{no_sums, plus, ticks}
use Rattle.plain.specs.Machine as plain
use Rattle.plain.specs.Trace.{trace, stop_met, duration, durations, adds, added, Does}
use Rattle.plain.proofs.WholeSteps.{plus-plus}
use Rattle.cycle.specs.declared.Counts.{Counts}
use Rattle.cycle.specs.Machine.{Machine, counts}
use Rattle.cycle.specs.Cycle.{cycle}
use Rattle.runs.specs.Run.{reach}
use Rattle.runs.specs.Boundary.{boundary}
use Rattle.runs.proofs.Flight.{Flight, climb, climb-add, retiring}
use Rattle.runs.proofs.PlainSteps.{flight, duration-flight, instruction}
use Rattle.pipeline.proofs.Settled.{reach-first}
use Rattle.pipeline.proofs.Position.{ranged, shorted}
use Rattle.link.specs.declared.Store.{Store}
use Rattle.stores.specs.Coming.{stored_by, stored}
use Rattle.stores.specs.Planned.{writes_at, stores_of}
use Rattle.stores.proofs.Pending.{pending, pending-goes}
use Rattle.stores.proofs.First.{boundary-stores, first-pending}

-- ---- cycles one after another

pub reach-add : (m : Machine) (a b : ℕ) → reach m (a + b) ≡ reach (reach m a) b
reach-add m zero b = unfold reach in ap (reach m) (omega arith)
reach-add m (suc a) b =
    let i : suc a + b ≡ suc (a + b) = omega arith in
    ap (reach m) i ∙ sym (reach-first m (a + b)) ∙ reach-add (cycle m) a b ∙ ap (λ (x : Machine). reach x b) (reach-first m a)

-- the store of this cycle, and those after it
stored-first : (m : Machine) (t : ℕ) → stored m (suc t) ≡ stored_by m ++ stored (cycle m) t
unfolding stored
stored-first m t = refl

pub stored-add : (m : Machine) (a b : ℕ) → stored m (a + b) ≡ stored m a ++ stored (reach m a) b
stored-add m zero b = unfold reach stored in ap (stored m) (omega arith)
stored-add m (suc a) b =
    let i : suc a + b ≡ suc (a + b) = omega arith in
    ap (stored m) i
    ∙ stored-first m (a + b)
    ∙ ap (λ (xs : List Store). stored_by m ++ xs) (stored-add (cycle m) a b ∙ ap (λ (x : Machine). stored (cycle m) a ++ stored x b) (reach-first m a))
    ∙ sym (append_assoc (stored_by m) (stored (cycle m) a) (stored (reach m (suc a)) b))
    ∙ ap (λ (xs : List Store). xs ++ stored (reach m (suc a)) b) (sym (stored-first m a))

-- ---- off a boundary

pub flight-ends : (n : Counts) (u j : ℕ) (m e : Machine) → Flight n u j m e → reach m j ≡ e
flight-ends n u zero m e f = unfold reach in f
flight-ends n u (suc j) m e f = sym (reach-first m j) ∙ flight-ends n (suc u) j (cycle m) e f.1

-- what was stored on the way and what is still pending are what was pending
pub along : (n : Counts) (u j i : ℕ) (m e : Machine) → Flight n u j m e → i ≤ j → stored m i ++ pending (reach m i) ≡ pending m
along n u j zero m e f h = unfold stored reach in refl
along n u zero (suc i) m e f h = absurd (omega arith)
along n u (suc j) (suc i) m e f h =
    let later = along n (suc u) j i (cycle m) e f.1 (omega arith) in
    ap (λ (xs : List Store). xs ++ pending (reach m (suc i))) (stored-first m i)
    ∙ append_assoc (stored_by m) (stored (cycle m) i) (pending (reach m (suc i)))
    ∙ ap (λ (x : Machine). stored_by m ++ (stored (cycle m) i ++ pending x)) (sym (reach-first m i))
    ∙ ap (λ (xs : List Store). stored_by m ++ xs) later
    ∙ sym (pending-goes m f.0.off)

-- ---- from a boundary

no-more : (p : plain.Machine) (n : Counts) → pending (boundary p n) ≡ []
unfolding pending boundary
no-more p n = refl

module _ (p : plain.Machine) (n : Counts) (range : p.plain.a < counters) (short : p.plain.board.size ≤ most_bytes) (quiet : stop_met p ≡ 0) where
  -- after the first of its cycles, up to the last
  pub partly : (i : ℕ) → i < duration p → stored (boundary p n) (suc i) ++ pending (reach (boundary p n) (suc i)) ≡ writes_at p n.cycles (ticks n.sums)
  partly i h =
      let b = boundary p n in
      let f = instruction p n range short quiet in
      let there = along n 3 (flight p) i (cycle b) _ f (omega (arith, duration-flight p quiet)) in
      ap (λ (xs : List Store). xs ++ pending (reach b (suc i))) (stored-first b i)
      ∙ ap (λ (xs : List Store). (xs ++ stored (cycle b) i) ++ pending (reach b (suc i))) (boundary-stores p n)
      ∙ ap (λ (x : Machine). stored (cycle b) i ++ pending x) (sym (reach-first b i))
      ∙ there
      ∙ first-pending p n quiet

  next-boundary : reach (boundary p n) (duration p) ≡ boundary (plain.step p) (retiring (n.cycles + duration p) (adds p) n)
  next-boundary =
      let b = boundary p n in
      let d = duration-flight p quiet in
      let c : climb (flight p) (suc n.cycles) ≡ n.cycles + duration p = climb-add (flight p) (suc n.cycles) ∙ omega (arith, d) in
      ap (reach b) d ∙ sym (reach-first b (flight p)) ∙ flight-ends n 3 (flight p) (cycle b) _ (instruction p n range short quiet)
      ∙ ap (λ (t : ℕ). boundary (plain.step p) (retiring t (adds p) n)) c

  wholly : stored (boundary p n) (duration p) ≡ writes_at p n.cycles (ticks n.sums)
  wholly =
      let b = boundary p n in
      let d = duration-flight p quiet in
      let e : pending (reach b (suc (flight p))) ≡ [] =
      ap (λ (x : ℕ). pending (reach b x)) (sym d) ∙ ap pending next-boundary ∙ no-more (plain.step p) (retiring (n.cycles + duration p) (adds p) n) in
      ap (stored b) d
      ∙ sym (append-nil (stored b (suc (flight p))))
      ∙ ap (λ (xs : List Store). stored b (suc (flight p)) ++ xs) (sym e)
      ∙ partly (flight p) (omega (arith, d))

-- ---- instructions one after another

-- none yet
pub counts-none : (n : Counts) → n ≡ counts (n.cycles + 0) (n.retired + 0) (plus n.sums no_sums)
counts-none n =
    let c : n.cycles + 0 ≡ n.cycles = omega arith in
    let r : n.retired + 0 ≡ n.retired = omega arith in
    let x : n.sums.n + 0 ≡ n.sums.n = omega arith in
    let y : n.sums.s + 0 ≡ n.sums.s = omega arith in
    let z : n.sums.i + 0 ≡ n.sums.i = omega arith in
    rw (c, r, x, y, z)

-- one more
pub counts-more : (n : Counts) (u k d : ℕ) (q r : Sums) → counts (n.cycles + u + d) (suc (n.retired + k)) (plus (plus n.sums q) r) ≡ counts (n.cycles + (u + d)) (n.retired + suc k) (plus n.sums (plus q r))
counts-more n u k d q r =
    let c : n.cycles + u + d ≡ n.cycles + (u + d) = omega arith in
    let s : suc (n.retired + k) ≡ n.retired + suc k = omega arith in
    rw (c, s) (ap (counts (n.cycles + (u + d)) (n.retired + suc k)) (sym (plus-plus n.sums q r)))

-- the counts after k of them
abbrev pub counts_past : plain.Machine → Counts → ℕ → Counts
counts_past p n k = counts (n.cycles + durations p k) (n.retired + k) (plus n.sums (added p k))

module _ (p : plain.Machine) (n : Counts) (range : p.plain.a < counters) (short : p.plain.board.size ≤ most_bytes) where
  pub past : (k : ℕ) → Does p k → reach (boundary p n) (durations p k) ≡ boundary (trace p k) (counts_past p n k)
  unfolding durations trace added
  past zero does = unfold reach in ap (boundary p) (counts-none n)
  past (suc k) does =
      let q = does k (omega arith) in
      let b = boundary (trace p k) (counts_past p n k) in
      reach-add (boundary p n) (durations p k) (duration (trace p k))
      ∙ ap (λ (x : Machine). reach x (duration (trace p k))) (past k (λ j h. does j (omega arith)))
      ∙ next-boundary (trace p k) (counts_past p n k) (ranged p (boundary p n) range short k) (shorted p (boundary p n) range short k) q
      ∙ ap (boundary (plain.step (trace p k))) (counts-more n (durations p k) k (duration (trace p k)) (added p k) (adds (trace p k)))

  pub stored-past : (k : ℕ) → Does p k → stored (boundary p n) (durations p k) ≡ stores_of n.cycles n.sums p k
  unfolding durations stores_of
  stored-past zero does = unfold stored in refl
  stored-past (suc k) does =
      let q = does k (omega arith) in
      let before = λ (j : ℕ) (h : j < k). does j (omega arith) in
      stored-add (boundary p n) (durations p k) (duration (trace p k))
      ∙ ap (λ (x : Machine). stored (boundary p n) (durations p k) ++ stored x (duration (trace p k))) (past k before)
      ∙ ap (λ (xs : List Store). xs ++ stored (boundary (trace p k) (counts_past p n k)) (duration (trace p k))) (stored-past k before)
      ∙ ap (λ (xs : List Store). stores_of n.cycles n.sums p k ++ xs) (wholly (trace p k) (counts_past p n k) (ranged p (boundary p n) range short k) (shorted p (boundary p n) range short k) q)
