-- The stores of the core after t cycles are those of the plain machine up to t.
-- Assumes nothing.
use Rattle.std.specs.Prelude.{Option, Some, None}
use Prim.Native.Nat.{ℕ, zero, suc, ◌+◌, ◌-◌, ◌≤◌, ◌<◌}
use mathlib.Core.Path.{◌≡◌, refl, sym, ap, subst, ◌∙◌}
use mathlib.Core.List.{List, [], ◌∷◌, ◌++◌}
use mathlib.Core.Bool.{Bool, true, false}
use native.Mathlib.Omega.{arith}
use native.Mathlib.Decide.{dec_lt}
use lib.ListN.{length}
use lib.Dec.{leb, eqb}
use borrow.Author.Tests.{le-leb, lt-leb}
use Rattle.std.proofs.lemmas.List.{append-nil}
use Rattle.bits.specs.Choice.{pick}
use Rattle.datapath.specs.Counter.{counters}
use Rattle.memory.specs.Lengths.{most_bytes}
use Rattle.memory.specs.Memory.{word_at}
use Rattle.stops.specs.Stops.{Due, no_word_there, skipped, executes, due}
use Rattle.semantics.specs.Sums.{no_sums, plus, ticks, start_sums}
use Rattle.plain.specs.Machine as plain
use Rattle.plain.specs.Trace.{trace, stop_met, duration, durations, added, Does}
use Rattle.plain.proofs.Accepted as plain-start
use Rattle.steps.specs.declared.Phase.{Phase}
use Rattle.steps.specs.declared.Phase.TheVariants.{Step1, Refill1, Refill2, Later}
use Rattle.cycle.specs.Machine.{Machine, counts}
use Rattle.cycle.specs.Cycle.{cycle}
use Rattle.runs.specs.Run.{reach}
use Rattle.runs.specs.Boundary.{boundary}
use Rattle.pipeline.specs.Calls.{start}
use Rattle.pipeline.specs.Term3.{sums, sums_there, fresh}
use Rattle.pipeline.proofs.Position.{beginning, plain_beginning, started, sums-step, ranged, shorted}
use Rattle.pipeline.proofs.Lists.{start-hands, plain-hands, term3}
use Rattle.link.specs.declared.Store.{Store}
use Rattle.stores.specs.Writes.{burst, writes}
use Rattle.stores.specs.Coming.{coming, told_bytes, stored_by, stored}
use Rattle.stores.specs.Planned.{writes_due, writes_at, stores_of, planned}
use Rattle.stores.specs.Agree.{up_to, StoresAgree}
use Rattle.stores.proofs.Pending.{pending, pending_in}
use Rattle.stores.proofs.Flights.{along, flight-ends, reach-add, stored-add, counts_past, past, stored-past, partly}

-- ---- when stores come

abbrev AtMost : ℕ → List Store → Type 0
AtMost t [] = Unit {0}
AtMost t (e ∷ es) = (e.cycle ≤ t) × AtMost t es

abbrev After : ℕ → List Store → Type 0
After t [] = Unit {0}
After t (e ∷ es) = (t < e.cycle) × After t es

at-most-append : (t : ℕ) (xs ys : List Store) → AtMost t xs → AtMost t ys → AtMost t (xs ++ ys)
at-most-append t [] ys h k = k
at-most-append t (x ∷ xs) ys h k = (h.0, at-most-append t xs ys h.1 k)

at-most-later : (t u : ℕ) (xs : List Store) → t ≤ u → AtMost t xs → AtMost u xs
at-most-later t u [] l h = h
at-most-later t u (x ∷ xs) l h = (omega (arith, h.0), at-most-later t u xs l h.1)

after-sooner : (t u : ℕ) (xs : List Store) → u ≤ t → After t xs → After u xs
after-sooner t u [] l h = h
after-sooner t u (x ∷ xs) l h = (omega (arith, h.0), after-sooner t u xs l h.1)

up-to-all : (t : ℕ) (xs : List Store) → AtMost t xs → up_to t xs ≡ xs
unfolding up_to
up-to-all t [] h = refl
up-to-all t (x ∷ xs) h = rw (le-leb x.cycle t h.0) (ap (λ (ys : List Store). x ∷ ys) (up-to-all t xs h.1))

up-to-none : (t : ℕ) (xs : List Store) → After t xs → up_to t xs ≡ []
unfolding up_to
up-to-none t [] h = refl
up-to-none t (x ∷ xs) h = rw (lt-leb x.cycle t h.0) (up-to-none t xs h.1)

up-to-append : (t : ℕ) (xs ys : List Store) → up_to t (xs ++ ys) ≡ up_to t xs ++ up_to t ys
unfolding up_to
up-to-append t [] ys = refl
up-to-append t (x ∷ xs) ys = go (leb x.cycle t) (up-to-append t xs ys)
  where
    go : (b : Bool) {zs : List Store} → zs ≡ up_to t xs ++ up_to t ys → pick b (x ∷ zs) zs ≡ pick b (x ∷ up_to t xs) (up_to t xs) ++ up_to t ys
    go true e = ap (λ (zs : List Store). x ∷ zs) e
    go false e = e

-- the store of a cycle comes in the next cycle's number
now-stored : (m : Machine) → AtMost (suc m.control.counts.cycles) (stored_by m)
unfolding stored_by
now-stored m = go (coming m).bytes _ _
  where
    go : (b a tick : ℕ) → AtMost (suc m.control.counts.cycles) (told_bytes b a (suc m.control.counts.cycles) tick)
    go zero a tick = tt
    go (suc b) a tick = (omega arith, tt)

cycles-on : (m : Machine) → (cycle m).control.counts.cycles ≡ suc m.control.counts.cycles
unfolding cycle
cycles-on m = refl

cycles-after : (m : Machine) (t : ℕ) → (reach m t).control.counts.cycles ≡ m.control.counts.cycles + t
unfolding reach
cycles-after m zero = omega arith
cycles-after m (suc t) = omega (arith, cycles-on (reach m t), cycles-after m t)

stored-by-then : (m : Machine) (t : ℕ) → AtMost (m.control.counts.cycles + t) (stored m t)
unfolding stored
stored-by-then m zero = tt
stored-by-then m (suc t) =
    let c = cycles-on m in
    at-most-append (m.control.counts.cycles + suc t) (stored_by m) (stored (cycle m) t)
    (at-most-later (suc m.control.counts.cycles) (m.control.counts.cycles + suc t) (stored_by m) (omega arith) (now-stored m))
    (at-most-later ((cycle m).control.counts.cycles + t) (m.control.counts.cycles + suc t) (stored (cycle m) t) (omega (arith, c)) (stored-by-then (cycle m) t))

burst-after : (n b a c t : ℕ) (u : ℕ) → u < c → After u (burst n b a c t)
unfolding burst
burst-after zero b a c t u h = tt
burst-after (suc n) b a c t u h = (h, burst-after n b _ (suc c) (suc t) u (omega arith))

pending-after : (m : Machine) → After m.control.counts.cycles (pending m)
unfolding pending
pending-after m = go m.control.phase m.control.pipe.ix
  where
    go : (ph : Phase) (x : Option ℕ) → After m.control.counts.cycles (pending_in ph x m.control.latches.address m.control.counts.cycles (ticks m.control.counts.sums))
    go Step1 x = tt
    go Refill1 x = tt
    go Refill2 x = tt
    go (Later k) None = tt
    go (Later k) (Some w) = burst-after _ _ _ _ _ m.control.counts.cycles (omega arith)

writes-after : (p : plain.Machine) (c t : ℕ) → After c (writes_at p c t)
unfolding writes_at writes
writes-after p c t = go (eqb (stop_met p) 0) (due (word_at (plain.state_of p).memory p.plain.a) p.plain.flags)
  where
    due-after : (d : Due) → After c (writes_due d (plain.state_of p) c t)
    due-after no_word_there = tt
    due-after skipped = tt
    due-after (executes i) = burst-after _ _ _ _ _ c (omega arith)

    go : (b : Bool) (d : Due) → After c (pick b (writes_due d (plain.state_of p) c t) [])
    go true d = due-after d
    go false d = tt

-- ---- from a start

module _ (g : List ℕ) (flags entry : ℕ) (mem : List ℕ) (range : entry < counters) (short : length mem ≤ most_bytes) where
  abbrev p : plain.Machine
  p = plain_beginning g flags entry mem

  abbrev m₀ : Machine
  m₀ = beginning g flags entry mem

  -- its 2 cycles
  abbrev first_boundary : Machine
  first_boundary = boundary p (counts 2 0 start_sums)

  refilled : reach m₀ 2 ≡ first_boundary
  refilled = flight-ends (counts 0 0 no_sums) 0 2 m₀ _ (started g flags entry mem) ∙ (unfold sums sums_there durations added in refl)

  nothing-first : (i : ℕ) → i ≤ 2 → stored m₀ i ≡ []
  nothing-first i h = no-part (stored m₀ i) _ (along (counts 0 0 no_sums) 0 2 i m₀ _ (started g flags entry mem) h ∙ (unfold pending in refl))
    where
      no-part : (xs ys : List Store) → xs ++ ys ≡ [] → xs ≡ []
      no-part [] ys e = refl
      no-part (x ∷ xs) ys e = cc

  sum-is : (k : ℕ) → sums p k ≡ 2 + durations p k
  unfolding sums
  sum-is k = refl

  at-sum : (k : ℕ) → Does p k → reach m₀ (sums p k) ≡ boundary (trace p k) (counts_past p (counts 2 0 start_sums) k)
  at-sum k d =
      ap (reach m₀) (sum-is k) ∙ reach-add m₀ 2 (durations p k) ∙ ap (λ (x : Machine). reach x (durations p k)) refilled
      ∙ past p (counts 2 0 start_sums) range short k d

  stored-at-sum : (k : ℕ) → Does p k → stored m₀ (sums p k) ≡ planned p k
  stored-at-sum k d =
      ap (stored m₀) (sum-is k) ∙ stored-add m₀ 2 (durations p k)
      ∙ ap (λ (xs : List Store). xs ++ stored (reach m₀ 2) (durations p k)) (nothing-first 2 (omega arith))
      ∙ ap (λ (x : Machine). stored x (durations p k)) refilled
      ∙ stored-past p (counts 2 0 start_sums) range short k d

  planned-more : (k t : ℕ) → up_to t (planned p (suc k)) ≡ up_to t (planned p k)
      ++ up_to t (writes_at (trace p k) (counts_past p (counts 2 0 start_sums) k).cycles (ticks (counts_past p (counts 2 0 start_sums) k).sums))
  planned-more k t = (unfold stores_of in up-to-append t (planned p k) (writes_at (trace p k) (2 + durations p k) (ticks (plus start_sums (added p k)))))

  -- within the last instruction: i + 1 cycles of it
  within : (k i : ℕ) → Does p (suc k) → i < duration (trace p k) → stored m₀ (sums p k + suc i) ≡ up_to (sums p k + suc i) (planned p (suc k))
  unfolding boundary sums
  within k i d h =
      let n = counts_past p (counts 2 0 start_sums) k in
      let before = λ (j : ℕ) (l : j < k). d j (omega arith) in
      let q = trace p k in
      let b = boundary q n in
      let t = sums p k + suc i in
      let there = at-sum k before in
      let is : stored m₀ t ≡ planned p k ++ stored b (suc i) =
      stored-add m₀ (sums p k) (suc i) ∙ ap (λ (x : Machine). stored m₀ (sums p k) ++ stored x (suc i)) there ∙ ap (λ (xs : List Store). xs ++ stored b (suc i)) (stored-at-sum k before) in
      let parts = partly q n (ranged p (boundary p n) range short k) (shorted p (boundary p n) range short k) (d k (omega arith)) i h in
      let old : up_to t (planned p k) ≡ planned p k =
      up-to-all t (planned p k) (subst (AtMost t) (stored-at-sum k before)
      (at-most-later (m₀.control.counts.cycles + sums p k) t (stored m₀ (sums p k)) (omega arith) (stored-by-then m₀ (sums p k)))) in
      let c : (reach b (suc i)).control.counts.cycles ≡ t = cycles-after b (suc i) in
      let done : up_to t (stored b (suc i)) ≡ stored b (suc i) =
      up-to-all t (stored b (suc i)) (at-most-later (b.control.counts.cycles + suc i) t (stored b (suc i)) (omega (arith, sum-is k)) (stored-by-then b (suc i))) in
      let later : up_to t (pending (reach b (suc i))) ≡ [] =
      up-to-none t (pending (reach b (suc i))) (subst (λ x. After x (pending (reach b (suc i)))) c (pending-after (reach b (suc i)))) in
      let new : up_to t (writes_at q n.cycles (ticks n.sums)) ≡ stored b (suc i) =
      ap (up_to t) (sym parts) ∙ up-to-append t (stored b (suc i)) (pending (reach b (suc i)))
      ∙ ap (λ (xs : List Store). xs ++ up_to t (pending (reach b (suc i)))) done
      ∙ ap (λ (xs : List Store). stored b (suc i) ++ xs) later ∙ append-nil (stored b (suc i)) in
      is
      ∙ sym (planned-more k t
      ∙ ap (λ (xs : List Store). xs ++ up_to t (writes_at q n.cycles (ticks n.sums))) old
      ∙ ap (λ (xs : List Store). planned p k ++ xs) new)

  up-to-here : (k t : ℕ) → Does p k → t ≤ sums p k → stored m₀ t ≡ up_to t (planned p k)
  up-to-here zero t d h =
      let z : sums p 0 ≡ 2 = sum-is 0 ∙ (unfold durations in refl) in
      nothing-first t (omega (arith, z)) ∙ (unfold stores_of up_to in refl)
  up-to-here (suc k) t d h = go (dec_lt (sums p k) t) (up-to-here k t (λ j l. d j (omega arith)))
    where
      go : Dec (sums p k < t) → (t ≤ sums p k → stored m₀ t ≡ up_to t (planned p k)) → stored m₀ t ≡ up_to t (planned p (suc k))
      go (yes l) ih =
          let i = t - suc (sums p k) in
          let e : t ≡ sums p k + suc i = omega arith in
          subst (λ x. stored m₀ x ≡ up_to x (planned p (suc k))) (sym e) (within k i d (omega (arith, sums-step p k)))
      go (no l) ih =
          let n = counts_past p (counts 2 0 start_sums) k in
          let w = writes_at (trace p k) n.cycles (ticks n.sums) in
          let none : up_to t w ≡ [] = up-to-none t w (after-sooner n.cycles t w (omega (arith, sum-is k)) (writes-after (trace p k) n.cycles (ticks n.sums))) in
          ih (omega arith) ∙ sym (planned-more k t ∙ ap (λ (xs : List Store). up_to t (planned p k) ++ xs) none ∙ append-nil (up_to t (planned p k)))

-- ---- from every start, after every list of calls

pub stores-agree : StoresAgree
unfolding start
stores-agree g flags entry mem e cs rs m t calls =
    let a = plain-start.given (length mem) entry flags e in
    let f = term3.lists g flags entry mem e cs rs m t calls in
    let d = f.leaves.distance.1 in
    record {
      stop = f.stop;
      is = f.leaves.is;
      k = d.k;
      does = d.does;
      covers = omega (arith, d.sum);
      stores = λ n. subst (λ (x : plain.Machine). Does x n → t ≤ sums x n → stored (fresh g flags entry mem) t ≡ up_to t (planned x n)) (plain-hands g flags entry mem e)
          (subst (λ (x : Machine). Does (plain_beginning g flags entry mem) n → t ≤ sums (plain_beginning g flags entry mem) n → stored x t ≡ up_to t (planned (plain_beginning g flags entry mem) n))
          (start-hands g flags entry mem e)
          (up-to-here g flags entry mem (omega (arith, a.placed.inside, a.sized.most)) a.sized.most n t));
    }
