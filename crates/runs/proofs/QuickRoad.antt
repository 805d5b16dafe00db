-- The quick road: a run goes on from the boundary after whole instructions.
-- Assumes nothing.
use Rattle.std.specs.Prelude.{Option, ℕ, Some, None}
use Prim.Native.Nat.{ℕ, zero, suc, ◌+◌, ◌-◌, ◌≤◌, ◌<◌}
use mathlib.Core.Path.{◌≡◌, refl, sym, ap, subst, ◌∙◌}
use mathlib.Core.List.{List}
use mathlib.Core.Bool.{Bool, true, false, ◌&&◌}
use lib.Dec.{ltb, leb, eqb}
use borrow.Author.Tests.{ltb-true, leb-true, eqb-true}
use native.Mathlib.Omega.{arith}
use native.Mathlib.Nat.{zero-add, add-zero}
use Rattle.bits.specs.Choice.{pick}
use Rattle.datapath.specs.Counter.{ahead, behind, counters}
use Rattle.datapath.proofs.Counters.{behind-lt, ahead-behind}
use Rattle.memory.specs.Memory.{memory_of, word_at}
use Rattle.plain.specs.Machine as plain
use Rattle.plain.specs.Trace.{stop_met, duration, adds}
use Rattle.memory.specs.Lengths.{most_bytes}
use Rattle.plain.specs.Running.{ran, more_by}
use Rattle.plain.specs.Whole.{Wholes, wholes_of, none_done, longest, wholes}
use Rattle.plain.proofs.WholeSteps.{duration-short, met, within-budgets, adds-timed, wholes-timed, plus-none, plus-plus}
use Rattle.semantics.proofs.Both.{and-true}
use Rattle.semantics.specs.declared.Tally.{Tally}
use Rattle.semantics.specs.Sums.{no_sums, total}
use Rattle.semantics.specs.Tally.{told_by}
use Rattle.cycle.specs.declared.Control.{Control}
use Rattle.cycle.specs.declared.Counts.{Counts}
use Rattle.cycle.specs.Machine.{Machine, machine, most_cycles}
use Rattle.cycle.specs.StopFound.{is_step1}
use Rattle.cycle.proofs.StopFound.{is-step1}
use Rattle.runs.specs.Run.{run_from}
use Rattle.runs.specs.Boundary.{boundary}
use Rattle.runs.specs.Whole.{counts_on, Stretch, stretch, longer, same, clear, sized, filled, stands, plainly, reached, skipped, Continues, QuickRoad}
use Rattle.runs.proofs.PlainSteps.{step_range, step-board}
use Rattle.runs.proofs.RunLoop.{Left}
use Rattle.runs.proofs.BoundaryRuns.{whole, duration-positive, stopped-boundary}

-- ---- stretches of a run

-- none yet
continues-start : (b : ℕ) (m : Machine) → m.control.counts.cycles + b ≤ most_cycles → m.control.counts.retired ≤ m.control.counts.cycles → Continues b m (stretch 0 m)
continues-start b m h k =
    let z : b - 0 ≡ b = omega arith in
    record {
      within = omega arith;
      goes = rw z (ap (λ x. ran (run_from b m).answer x (run_from b m).machine) (sym (zero-add (run_from b m).used)));
      room = omega arith;
      behind = k;
      timed = omega arith;
    }

-- two are one
continues-both : (b u : ℕ) (m₀ m : Machine) (s : Stretch) → Continues b m₀ (stretch u m) → Continues (b - u) m s → Continues b m₀ (longer u s)
continues-both b u m₀ m s o p =
    let r : (b - u) - s.used ≡ b - (u + s.used) = omega arith in
    let last = run_from (b - (u + s.used)) s.machine in
    let sum : u + (s.used + last.used) ≡ (u + s.used) + last.used = omega arith in
    record {
      within = omega (arith, o.within, p.within);
      goes =
          o.goes ∙ ap (more_by u) (p.goes ∙ ap (λ x. more_by s.used (run_from x s.machine)) r)
          ∙ ap (λ x. ran last.answer x last.machine) sum;
      room = omega (arith, p.room);
      behind = p.behind;
      timed = omega (arith, o.timed, p.timed);
    }

-- ---- whole instructions

pub boundary-counts : (p : plain.Machine) (c : Counts) → (boundary p c).control.counts ≡ c
unfolding boundary
boundary-counts p c = refl

at-boundary : (b : ℕ) (p : plain.Machine) (c : Counts) → c.cycles + b ≤ most_cycles → c.retired ≤ c.cycles → Continues b (boundary p c) (stretch 0 (boundary p c))
at-boundary b p c h i = continues-start b (boundary p c) (rw (boundary-counts p c) h) (rw (boundary-counts p c) i)

-- none, or one that meets a stop: it still stands there
stays : (b : ℕ) (p : plain.Machine) (c : Counts) {e : Machine} → e ≡ boundary p c → c.cycles + b ≤ most_cycles → c.retired ≤ c.cycles → Continues b (boundary p c) (stretch 0 e)
stays b p c f h i = rw f (at-boundary b p c h i)

and_none : (p : plain.Machine) (c : Counts) → boundary p (counts_on 0 0 no_sums c) ≡ boundary p c
and_none p c = rw (add-zero c.cycles, add-zero c.retired, plus-none c.sums)

continues-wholes : (n b : ℕ) (p : plain.Machine) (c : Counts) → p.plain.a < counters → p.plain.board.size ≤ most_bytes → c.cycles + b ≤ most_cycles → c.retired ≤ c.cycles
    → Continues b (boundary p c) (reached c (wholes n b p))
unfolding wholes
continues-wholes zero b p c r l h i = stays b p c (and_none p c) h i
continues-wholes (suc n) b p c r l h i =
    by-room (leb longest b) refl
    (continues-wholes n (b - duration p) (plain.step p) on (step_range p r) (rw (step-board p) l))
  where
    rest : Wholes
    rest = wholes n (b - duration p) (plain.step p)

    on : Counts
    on = counts_on (duration p) 1 (adds p) c

    next : Machine
    next = boundary (plain.step p) on

    On : Type 0
    On = on.cycles + (b - duration p) ≤ most_cycles → on.retired ≤ on.cycles → Continues (b - duration p) next (reached on rest)

    by-stop : (q : ℕ) → stop_met p ≡ q → longest ≤ b → On → Continues b (boundary p c) (reached c (met b p q n))
    by-stop (suc q) e f o = stays b p c (and_none (plain.step p) c ∙ stopped-boundary p c e) h i
    by-stop zero e f o =
        let fits : duration p ≤ b = omega (arith, duration-short p) in
        let d = duration-positive p e in
        let sum : b ≡ duration p + (b - duration p) = omega arith in
        let there = boundary-counts (plain.step p) on in
        let from = boundary-counts p c in
        let one : Continues b (boundary p c) (stretch (duration p) next) = record {
          within = fits;
          goes = ap (λ x. run_from x (boundary p c)) sum ∙ whole p c (b - duration p) r l e;
          room = rw there (omega arith);
          behind = rw there (omega arith);
          timed = rw (there, from) (omega (arith, adds-timed p));
        } in
        let ts : c.cycles + duration p + rest.used ≡ c.cycles + (duration p + rest.used) = omega arith in
        let ks : c.retired + 1 + rest.done ≡ c.retired + (1 + rest.done) = omega arith in
        rw (← ts, ← ks, plus-plus c.sums (adds p) rest.sums) (continues-both b (duration p) (boundary p c) next (reached on rest) one (o (omega arith) (omega arith)))

    by-room : (x : Bool) → leb longest b ≡ x → On → Continues b (boundary p c) (reached c (pick x (met b p (stop_met p) n) (none_done 0 p)))
    by-room false e o = stays b p c (and_none p c) h i
    by-room true e o = by-stop (stop_met p) refl (leb-true longest b e) o

-- ---- where whole instructions may begin

are-same : (x y : Option ℕ) → same x y ≡ true → x ≡ y
are-same (Some v) (Some w) e = ap Some (eqb-true v w e)
are-same (Some v) None e = cc
are-same None (Some w) e = cc
are-same None None e = refl

-- what the test says, part by part
module _ (g : List ℕ) (c : Control) (mem : List ℕ) (t : stands c mem ≡ true) where
  ready : ((is_step1 c.phase && clear c && sized c) ≡ true) × (filled c (behind c.pipe.pc 8) (memory_of c.board mem) ≡ true)
  unfolding stands
  ready = and-true (is_step1 c.phase && clear c && sized c) {b = filled c (behind c.pipe.pc 8) (memory_of c.board mem)} t

  in-range : ((is_step1 c.phase && clear c) ≡ true) × (sized c ≡ true)
  in-range = and-true (is_step1 c.phase && clear c) {b = sized c} ready.0

  pub short : c.board.size ≤ most_bytes
  short = leb-true _ _ (and-true (ltb c.pipe.pc counters) in-range.1).1

  standing : machine g c mem ≡ boundary (plainly (machine g c mem)) c.counts
  unfolding boundary
  standing =
      let a = behind c.pipe.pc 8 in
      let fetched = word_at (memory_of c.board mem) in
      let p2 = and-true (same c.pipe.ix (fetched a) && same c.pipe.ir2 (fetched a)) ready.1 in
      let p1 = and-true (same c.pipe.ix (fetched a)) p2.0 in
      let s4 = and-true (is_step1 c.phase) in-range.0 in
      let s3 = and-true (eqb c.stop 0 && eqb c.latches.address 0 && eqb c.latches.datum 0) s4.1 in
      let s2 = and-true (eqb c.stop 0 && eqb c.latches.address 0) s3.0 in
      let s1 = and-true (eqb c.stop 0) s2.0 in
      rw (
        ahead-behind c.pipe.pc (ltb-true _ _ (and-true (ltb c.pipe.pc counters) in-range.1).0),
        is-step1 c.phase s4.0,
        eqb-true c.stop 0 s1.0,
        eqb-true c.latches.address 0 s1.1,
        eqb-true c.latches.datum 0 s2.1,
        eqb-true c.latches.base 0 s3.1,
        are-same c.pipe.ix (fetched a) p1.0,
        are-same c.pipe.ir2 (fetched a) p1.1,
        are-same c.pipe.ir1 (fetched (ahead a 4)) p2.1,
      )

skipping : (b : ℕ) (m : Machine) → m.control.counts.cycles + b ≤ most_cycles → m.control.counts.retired ≤ m.control.counts.cycles → Continues b m (skipped b m)
unfolding skipped
skipping b m h k = go (leb longest b && stands m.control m.memory) refl
  where
    there : Stretch
    there = reached m.control.counts (wholes b b (plainly m))

    go : (t : Bool) → (leb longest b && stands m.control m.memory) ≡ t → Continues b m (pick t there (stretch 0 m))
    go true e =
        let f = (and-true (leb longest b) e).1 in
        subst (λ (x : Machine). Continues b x there) (sym (standing m.registers m.control m.memory f))
        (continues-wholes b b (plainly m) m.control.counts (behind-lt m.control.pipe.pc 8)
        (short m.registers m.control m.memory f) h k)
    go false e = continues-start b m h k

pub quick-road : QuickRoad
quick-road = record { standing = λ m e. standing m.registers m.control m.memory e; skipping = skipping }

-- what `skip` joins
pub came-within : {b : ℕ} (p : plain.Machine) {w : Wholes} → w ≡ wholes b b p → (w.done ≤ b) × (w.used ≤ b)
came-within {b} p e = rw e (within-budgets b b p)

-- the tally that whole instructions raise stays below what it is taken from
pub tally-within : (b : ℕ) (p : plain.Machine) (t : Tally) {d u q : ℕ} {k : plain.Machine} → wholes_of d u (told_by t d u) q k ≡ wholes b b p
    → (t.n ≤ d + t.extra) × (d + t.extra ≤ u)
tally-within b p t {d} {u} e =
    let all : total (told_by t d u) ≡ u = ap (λ (w : Wholes). total w.sums) e ∙ wholes-timed b b p ∙ ap (λ (w : Wholes). w.used) (sym e) in
    (omega arith, omega arith)

module _ (b : ℕ) (m : Machine) {t : Bool} (e : t ≡ (leb longest b && stands m.control m.memory)) where
  pub skip-whole : t ≡ true → {w : Wholes} {k : Machine} → w ≡ wholes b b (plainly m)
      → k ≡ boundary w.machine (counts_on w.used w.done w.sums m.control.counts) → stretch w.used k ≡ skipped b m
  unfolding skipped
  skip-whole i {w} f j = ap (stretch w.used) j ∙ ap (reached m.control.counts) f ∙ rw (sym e ∙ i)

  pub skip-none : t ≡ false → stretch 0 m ≡ skipped b m
  unfolding skipped
  skip-none i = rw (sym e ∙ i)

-- the run after a skip
pub left-skip : {b u v : ℕ} {m₀ m k : Machine} → Left b m₀ u m → stretch v k ≡ skipped (b - u) m → Left b m₀ (u + v) k
left-skip {b} {u} {v} {m₀} {m} {k} l e =
    let r : l.left.rest ≡ b - u = omega (arith, l.left.sum) in
    let o : Continues (b - u) m (stretch v k) = subst (Continues (b - u) m) (sym e) (skipping (b - u) m (omega (arith, l.room, r)) l.behind) in
    let last = run_from ((b - u) - v) k in
    let sum : u + (v + last.used) ≡ (u + v) + last.used = omega arith in
    record {
      left = record {
        rest = (b - u) - v;
        sum = omega (arith, o.within, l.left.sum);
        same = l.left.same ∙ ap (λ (x : ℕ). more_by u (run_from x m)) r ∙ ap (more_by u) o.goes ∙ ap (λ (x : ℕ). ran last.answer x last.machine) sum;
      };
      room = o.room;
      behind = o.behind;
      timed = omega (arith, o.timed, o.within, l.timed, r);
    }
