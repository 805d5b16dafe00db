-- The quick road of a watched run, and its single cycles: where they come to, and what they store. Assumes nothing.
use Prim.Native.Nat.{ℕ, zero, suc, ◌+◌, ◌-◌, ◌≤◌, ◌<◌}
use mathlib.Core.Path.{◌≡◌, refl, sym, ap, subst, ◌∙◌}
use mathlib.Core.List.{List, [], ◌∷◌}
use mathlib.Core.Bool.{true, ◌&&◌}
use lib.Dec.{leb}
use mathlib.Core.Logic.{◌≢◌}
use native.Mathlib.Omega.{arith}
use native.Mathlib.Nat.{zero-add}
use Rattle.datapath.specs.Counter.{counters}
use Rattle.datapath.proofs.Counters.{behind-lt}
use Rattle.memory.specs.Lengths.{most_bytes}
use Rattle.semantics.specs.declared.Sums.{Sums}
use Rattle.semantics.specs.declared.Tally.{Tally}
use Rattle.semantics.specs.Sums.{plus, ticks}
use Rattle.semantics.specs.Tally.{told_by}
use Rattle.plain.specs.Machine as plain
use Rattle.plain.specs.Trace.{trace, duration, durations, adds, added, Does}
use Rattle.plain.specs.Whole.{longest}
use Rattle.semantics.proofs.Both.{and-true}
use Rattle.plain.specs.Running.{ran, more_by}
use Rattle.cycle.specs.declared.Counts.{Counts}
use Rattle.cycle.specs.Machine.{Machine, counts}
use Rattle.runs.specs.Run.{run_from, reach}
use Rattle.runs.specs.Boundary.{boundary}
use Rattle.runs.specs.Whole.{counts_on, stands, plainly}
use Rattle.runs.proofs.QuickRoad.{short, quick-road}
use Rattle.runs.proofs.BoundaryRuns.{whole}
use Rattle.link.specs.declared.Store.{Store}
use Rattle.link.specs.declared.Window.{Window}
use Rattle.link.specs.Window.{store, handed}
use Rattle.stores.specs.Coming.{told_bytes, coming, steps_done, stored_by, stored}
use Rattle.stores.specs.Planned.{stores_of}
use Rattle.pipeline.proofs.Position.{ranged, shorted}
use Rattle.stores.proofs.Flights.{counts-none, counts-more, counts_past, past, stored-past}
use Rattle.stores.specs.declared.Write.{Write}
use Rattle.watch.specs.Told.{Tells}
use Rattle.watch.specs.Quick.{Goes}
use Rattle.watch.proofs.Telling.{none-told}

module _ (p : plain.Machine) (n : Counts) (range : p.plain.a < counters) (short : p.plain.board.size ≤ most_bytes) where
  -- a run goes on after k instructions
  pub run-past : (k b : ℕ) → Does p k → run_from (durations p k + b) (boundary p n) ≡ more_by (durations p k) (run_from b (boundary (trace p k) (counts_past p n k)))
  unfolding durations trace added
  run-past zero b does =
      let last = run_from b (boundary p n) in
      ap (λ x. run_from x (boundary p n)) (zero-add b)
      ∙ ap (λ u. ran last.answer u last.machine) (sym (zero-add last.used))
      ∙ ap (λ (x : Counts). more_by 0 (run_from b (boundary p x))) (counts-none n)
  run-past (suc k) b does =
      let d = durations p k in
      let e = duration (trace p k) in
      let next = boundary (plain.step (trace p k)) (counts_past p n (suc k)) in
      let last = run_from b next in
      let sum : d + e + b ≡ d + (e + b) = omega arith in
      let used : d + (e + last.used) ≡ d + e + last.used = omega arith in
      let one : n.retired + k + 1 ≡ suc (n.retired + k) = omega arith in
      ap (λ x. run_from x (boundary p n)) sum
      ∙ run-past k (e + b) (λ j h. does j (omega arith))
      ∙ ap (more_by d) (whole (trace p k) (counts_past p n k) b (ranged p (boundary p n) range short k) (shorted p (boundary p n) range short k) (does k (omega arith)))
      ∙ ap (λ (x : Counts). more_by d (more_by e (run_from b (boundary (plain.step (trace p k)) x))))
      (ap (λ r. counts (n.cycles + d + e) r (plus (plus n.sums (added p k)) (adds (trace p k)))) one ∙ counts-more n d k e (added p k) (adds (trace p k)))
      ∙ ap (λ u. ran last.answer u last.machine) used

  -- where the quick road comes to
  module _ (k used : ℕ) (w : Tally) (m : plain.Machine) (g : Goes p k used w m) where
    there-is : boundary m (counts_on used k (told_by w k used) n) ≡ boundary (trace p k) (counts_past p n k)
    there-is =
        ap (λ (x : plain.Machine). boundary x (counts_on used k (told_by w k used) n)) g.there
        ∙ ap (λ (q : Sums). boundary (trace p k) (counts_on used k q n)) g.sums_are
        ∙ ap (λ u. boundary (trace p k) (counts_on u k (added p k) n)) g.used_is

    pub skip-there : boundary m (counts_on used k (told_by w k used) n) ≡ reach (boundary p n) used
    skip-there = there-is ∙ sym (past p n range short k g.does) ∙ ap (reach (boundary p n)) (sym g.used_is)

    pub skip-goes : (b : ℕ) → used ≤ b → run_from b (boundary p n) ≡ more_by used (run_from (b - used) (boundary m (counts_on used k (told_by w k used) n)))
    skip-goes b h =
        let sum : b ≡ durations p k + (b - used) = omega (arith, g.used_is) in
        ap (λ x. run_from x (boundary p n)) sum ∙ run-past k (b - used) g.does
        ∙ ap (λ u. more_by u (run_from (b - used) (boundary (trace p k) (counts_past p n k)))) (sym g.used_is)
        ∙ ap (λ (x : Machine). more_by used (run_from (b - used) x)) (sym there-is)

    pub skip-stores : stores_of n.cycles n.sums p k ≡ stored (boundary p n) used
    skip-stores = sym (stored-past p n range short k g.does) ∙ ap (stored (boundary p n)) (sym g.used_is)

-- from where the core stands between two instructions
module _ (b : ℕ) (m : Machine) (t : (leb longest b && stands m.control m.memory) ≡ true) where
  there : stands m.control m.memory ≡ true
  there = (and-true (leb longest b) t).1

  here : m ≡ boundary (plainly m) m.control.counts
  here = quick-road.standing m there

  small : m.control.board.size ≤ most_bytes
  small = short m.registers m.control m.memory there

  module _ (k used : ℕ) (w : Tally) (p : plain.Machine) (g : Goes (plainly m) k used w p) where
    pub skipped-there : (c : Counts) (to : Machine) → c ≡ counts_on used k (told_by w k used) m.control.counts → to ≡ boundary p c → to ≡ reach m used
    skipped-there c to is at =
        at ∙ ap (boundary p) is ∙ skip-there (plainly m) m.control.counts (behind-lt m.control.pipe.pc 8) small k used w p g ∙ ap (λ (x : Machine). reach x used) (sym here)

    pub skipped-goes : (c : Counts) (to : Machine) → c ≡ counts_on used k (told_by w k used) m.control.counts → to ≡ boundary p c → used ≤ b
        → run_from b m ≡ more_by used (run_from (b - used) to)
    skipped-goes c to is at h =
        ap (run_from b) here ∙ skip-goes (plainly m) m.control.counts (behind-lt m.control.pipe.pc 8) small k used w p g b h
        ∙ ap (λ (x : Machine). more_by used (run_from (b - used) x)) (sym (at ∙ ap (boundary p) is))

    pub skipped-stores : stores_of m.control.counts.cycles m.control.counts.sums (plainly m) k ≡ stored m used
    skipped-stores =
        skip-stores (plainly m) m.control.counts (behind-lt m.control.pipe.pc 8) small k used w p g ∙ ap (λ (x : Machine). stored x used) (sym here)

-- none skipped
pub no-skip-goes : (b : ℕ) (m : Machine) → run_from b m ≡ more_by 0 (run_from (b - 0) m)
no-skip-goes b m =
    let z : b - 0 ≡ b = omega arith in
    rw z (ap (λ u. ran (run_from b m).answer u (run_from b m).machine) (sym (zero-add (run_from b m).used)))

-- the coming cycle
pub stored-none : (m : Machine) → (coming m).bytes ≡ 0 → stored_by m ≡ []
unfolding stored_by
stored-none m e = rw e

pub stored-one : (m : Machine) (k : ℕ) → (coming m).bytes ≢ 0 → k ≡ steps_done m.control.phase
    → stored_by m ≡ store (m.control.counts.cycles + 1) (ticks m.control.counts.sums + 4 + k) (coming m).address (coming m).bytes ∷ []
unfolding stored_by
stored-one m k z e =
    let c : m.control.counts.cycles + 1 ≡ suc m.control.counts.cycles = omega arith in
    rw (c, e) (go (coming m).bytes z)
  where
    go : (b : ℕ) → b ≢ 0 → told_bytes b (coming m).address (suc m.control.counts.cycles) (ticks m.control.counts.sums + 4 + steps_done m.control.phase)
        ≡ store (suc m.control.counts.cycles) (ticks m.control.counts.sums + 4 + steps_done m.control.phase) (coming m).address b ∷ []
    go zero z = absurd (z refl)
    go (suc b) z = refl

-- what is told of it
module _ (v : Window) (n : ℕ) (found : List Store) (m : Machine) (e : Write) (is : e ≡ coming m) where
  pub tells-nothing : e.bytes ≡ 0 → Tells n found n found (handed v (stored_by m))
  unfolding handed
  tells-nothing z = rw (stored-none m (ap (λ (x : Write). x.bytes) (sym is) ∙ z)) (none-told found n)

  pub tells-coming : (k t k' t' : ℕ) (new : List Store) → e.bytes ≢ 0 → t ≡ ticks m.control.counts.sums → k ≡ k' → k' ≡ steps_done m.control.phase
      → Tells n found t' new (handed v (store (m.control.counts.cycles + 1) (t + 4 + k) e.address e.bytes ∷ [])) → Tells n found t' new (handed v (stored_by m))
  tells-coming k t k' t' new z i j h x =
      subst (λ (es : List Store). Tells n found t' new (handed v es))
      (rw (i, is) (sym (stored-one m k (λ y. z (ap (λ (x : Write). x.bytes) is ∙ y)) (j ∙ h)))) x
