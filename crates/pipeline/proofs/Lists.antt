-- Term 3, proved: an induction over the list of calls, with the core's position as its invariant.
-- Assumes nothing.
use Prim.Native.Nat.{ℕ, zero, suc, pred, ◌+◌, ◌-◌, ◌%◌, ◌≤◌, ◌<◌}
use mathlib.Core.Path.{◌≡◌, refl, sym, ap, subst, ◌∙◌}
use mathlib.Core.List.{List}
use mathlib.Core.Bool.{Bool, true, false, not, ◌||◌, ◌&&◌, false≢true}
use mathlib.Core.Logic.{◌≢◌, ◌⊎◌, inl, inr, ⊎_elim}
use native.Mathlib.Omega.{arith}
use native.Mathlib.Decide.{dec_lt}
use native.Mathlib.Nat.{eq-or-lt_of_le, le_of_suc-le-suc}
use lib.ListN.{length}
use lib.Dec.{ltb, leb, eqb}
use borrow.Author.Tests.{lt-ltb, le-ltb, le-leb, eq-eqb, ne_eqb, ltb-true, ltb-false, eqb-true, eqb-false}
use Rattle.bits.specs.Choice.{pick}
use Rattle.plain.specs.Machine as plain
use Rattle.memory.specs.Lengths.{most_bytes, bad_length}
use Rattle.memory.proofs.Lengths.{length-good}
use Rattle.plain.specs.Numbers.{is_stop, start_answer}
use Rattle.plain.specs.Run as plain_calls
use Rattle.plain.specs.Trace.{trace, stop_met, durations, Does}
use Rattle.plain.proofs.Accepted as plain-start
use Rattle.steps.specs.declared.Phase.{Phase}
use Rattle.steps.specs.declared.Phase.TheVariants.{Step1, Refill1, Refill2, Later}
use Rattle.datapath.specs.Counter.{counters}
use Rattle.semantics.specs.Sums.{no_sums, total}
use Rattle.cycle.specs.declared.Counts.{Counts}
use Rattle.cycle.specs.Machine.{Machine, counts, most_cycles}
use Rattle.cycle.specs.Cycle.{cycle}
use Rattle.cycle.specs.StopFound.{is_step1, stop_found}
use Rattle.cycle.proofs.StopFound.{no_stop}
use Rattle.stops.specs.Stops.{Due, no_word_there, skipped, executes, due}
use Rattle.stops.proofs.BrokenRules.{rule-alike}
use Rattle.refusals.specs.Numbers.{state_later, bad_within, bad_step, held_away, bad_phase, bad, refusal}
use Rattle.pipeline.specs.Calls.{start, run}
use Rattle.plain.specs.Running as engines
use Rattle.plain.specs.Running.{Ran, ran, one_more, unless}
use Rattle.plain.proofs.Running as loops
use Rattle.runs.specs.Run.{holding, reach, engine, run_from}
use Rattle.runs.specs.CyclesLeft.{cycles_left}
use Rattle.pipeline.specs.Term3.{fresh, plain_fresh, Begins, sums, sums_there, sums_at, Stops, Distance, Call, running, settling, lent_to, lend, call, Reply, reply, reply_of, RunAccepted, Accepted, Refused, Calls, no_calls, accepted, refused}
use Rattle.pipeline.specs.Term3.{Answers, other_length, too_many, too_far, repeats, stops, spends, boundary_too_far, settles, AllAnswer, none, more, Never, never_none, never_more}
use Rattle.pipeline.specs.Term3.{Greatest, Leaves, Further, EndsSettled, at_last, later_on, Follows, Term3}
use Rattle.runs.specs.Boundary.{boundary, lead}
use Rattle.pipeline.proofs.Keeps.{reach-alike}
use Rattle.pipeline.proofs.Sound.{refill-alike}
use Rattle.runs.proofs.Flight.{Aloft, Flight}
use Rattle.runs.proofs.PlainSteps.{duration-flight, Stop, stop-met}
use Rattle.pipeline.proofs.Position.{Pos, advance, beginning, plain_beginning, counts_there, counts_last, last-retired, started, sums-step, sums-timed, ranged}
use Rattle.runs.proofs.PlainSteps.{boundary-stop}
use Rattle.runs.proofs.QuickRoad.{boundary-counts}
use Rattle.pipeline.proofs.Settled.{flight-left, settle-laws}

reach-stop : (m : Machine) (t : ℕ) → (reach m t).control.stop ≡ m.control.stop
unfolding reach cycle
reach-stop m zero = refl
reach-stop m (suc t) = reach-stop m t

reach-size : (m : Machine) (t : ℕ) → (reach m t).control.board.size ≡ m.control.board.size
unfolding reach cycle
reach-size m zero = refl
reach-size m (suc t) = reach-size m t

reach-cycles : (m : Machine) (t : ℕ) → m.control.counts.cycles ≡ 0 → (reach m t).control.counts.cycles ≡ t
unfolding reach cycle
reach-cycles m zero e = e
reach-cycles m (suc t) e = ap suc (reach-cycles m t e)

holding-none : (m : Machine) → m.control.stop ≡ 0 → holding m 0 ≡ m
holding-none m e = ap (holding m) (sym e)

zero-anywhere : (ph : Phase) → held_away ph 0 ≡ false
zero-anywhere Step1 = refl
zero-anywhere Refill1 = refl
zero-anywhere Refill2 = refl
zero-anywhere (Later k) = refl

off-step1 : (ph : Phase) → is_step1 ph ≡ false → ph ≡ Step1 → ⊥
off-step1 ph e h = false≢true (sym e ∙ ap is_step1 h)

-- the cycles rise by those that a run says it used
abbrev Rises : Machine → Ran Machine → Type 0
Rises m r = r.machine.control.counts.cycles ≡ m.control.counts.cycles + r.used

rises-from : (b : ℕ) (m : Machine) → Rises m (run_from b m)
unfolding engines.runs cycle
rises-from zero m = omega arith
rises-from (suc b) m = go (stop_found m) (rises-from b (cycle m))
  where
    go : (q : ℕ) → Rises (cycle m) (run_from b (cycle m)) → Rises m (loops.found engine q b m)
    go zero ih = omega (arith, ih)
    go (suc q) ih = omega arith

rises-unless : (q : ℕ) (m : Machine) (r : Ran Machine) → Rises m r → Rises m (unless q m r)
rises-unless q m r h = go (eqb q 0)
  where
    go : (b : Bool) → Rises m (pick b r (ran q 0 m))
    go true = h
    go false = omega arith

rises : (n b : ℕ) (m : Machine) → Rises m (run n b m)
unfolding run
rises n b m = rises-unless (refusal n b m) m _ (rises-unless m.control.stop m _ (rises-from b m))

-- a stop that is met is one that a record can hold
is-stop : (q : ℕ) → Stop q → is_stop q ≡ true
is-stop q h = ⊎_elim (λ e. rw e) (λ r. go (eqb q 0) r) h
  where
    go : (b : Bool) → (21 ≤ q) × (q ≤ 25) → (b || (leb 21 q && leb q 25)) ≡ true
    go true r = refl
    go false r = rw (le-leb 21 q r.0, le-leb q 25 r.1)

-- there is one distance
one-distance : (p : plain.Machine) (t c d : ℕ) → Distance p t c → Distance p t d → c ≡ d
one-distance p t c d x y = omega (arith, x.sum, y.sum, x.least y.k (omega (arith, y.sum)), y.least x.k (omega (arith, x.sum)))

module _ (p : plain.Machine) (m₀ : Machine) (r₀ : p.plain.a < counters) (s₀ : p.plain.board.size ≤ most_bytes) where
  -- a run that used its budget, and one that found a stop
  record Spent (t b : ℕ) (r : Ran Machine) : Type 0 where
    to : ℕ
    sum : to ≡ t + b
    pos : Pos p m₀ r₀ s₀ to
    is : r ≡ ran 0 b (reach m₀ to)

  record Halted (t b : ℕ) (r : Ran Machine) : Type 0 where
    to : ℕ
    u : ℕ
    q : ℕ
    sum : to ≡ t + u
    less : u < b
    pos : Pos p m₀ r₀ s₀ to
    at : pos.n ≡ 0
    stop : stop_met (trace p pos.k) ≡ suc q
    is : r ≡ ran (suc q) u (holding (reach m₀ to) (suc q))

  -- a stop is found on a boundary, and is the plain machine's
  found : {t : ℕ} (c : Pos p m₀ r₀ s₀ t) (q : ℕ) → stop_found (reach m₀ t) ≡ suc q → (c.n ≡ 0) × (stop_met (trace p c.k) ≡ suc q)
  found {t} c q e = go c.n c.u c.flying
    where
      go : (n u : ℕ) → Flight (counts_last p c.k) u n (reach m₀ t) (boundary (trace p c.k) (counts_there p c.k))
          → (n ≡ 0) × (stop_met (trace p c.k) ≡ suc q)
      go zero u f = (refl, sym (boundary-stop (trace p c.k) (counts_there p c.k) (ranged p m₀ r₀ s₀ c.k)) ∙ rw f at e)
      go (suc n) u f =
          absurd (let z : stop_found (reach m₀ t) ≡ 0 = no_stop (reach m₀ t) f.0.off in omega arith)

  running-on : (b : ℕ) {t : ℕ} → Pos p m₀ r₀ s₀ t → Spent t b (run_from b (reach m₀ t)) ⊎ Halted t b (run_from b (reach m₀ t))
  unfolding engines.runs reach
  running-on zero {t} c = inl (record { to = t; sum = omega arith; pos = c; is = refl })
  running-on (suc b) {t} c = go (stop_found (reach m₀ t)) refl (λ e. running-on b (advance p m₀ r₀ s₀ c e))
    where
      go : (q : ℕ) → stop_found (reach m₀ t) ≡ q
          → (stop_found (reach m₀ t) ≡ 0 → Spent (suc t) b (run_from b (reach m₀ (suc t))) ⊎ Halted (suc t) b (run_from b (reach m₀ (suc t))))
          → Spent t (suc b) (run_from (suc b) (reach m₀ t)) ⊎ Halted t (suc b) (run_from (suc b) (reach m₀ t))
      go zero e ih =
          rw (e, engines.runs)
          (⊎_elim
          (λ r. inl (record { to = r.to; sum = omega arith; pos = r.pos; is = ap one_more r.is }))
          (λ r. inr (record { to = r.to; u = suc r.u; q = r.q; sum = omega arith; less = omega arith; pos = r.pos; at = r.at; stop = r.stop; is = ap one_more r.is }))
          (ih e))
      go (suc q) e ih =
          let f = found c q e in
          rw (e, engines.runs) (inr (record { to = t; u = 0; q = q; sum = omega arith; less = omega arith; pos = c; at = f.0; stop = f.1; is = refl }))

  -- ---- sums

  start-sum : sums p 0 ≡ 2
  unfolding sums durations
  start-sum = refl

  sums-le : (k : ℕ) {j : ℕ} → j ≤ k → sums p j ≤ sums p k
  sums-le zero {j} h = let e : j ≡ 0 = omega arith in rw e (omega arith)
  sums-le (suc k) {j} h = ⊎_elim (λ e. rw e (omega arith)) (λ l. omega (arith, sums-le k (le_of_suc-le-suc l), sums-step p k)) (eq-or-lt_of_le h)

  -- durations of instructions that are done are not 0
  sums_lt : (k : ℕ) {j : ℕ} → Does p k → j < k → sums p j < sums p k
  sums_lt k {j} d h = omega (arith, sums-le k h, sums-step p j, duration-flight (trace p j) (d j h))

  -- k instructions done, and a stop: it comes after them
  later-stop : {k t q : ℕ} → Does p k → Stops p t q → sums p k ≤ t
  later-stop {k} {t} d z = go (dec_lt z.k k)
    where
      go : Dec (z.k < k) → sums p k ≤ t
      go (yes l) = absurd (z.real (sym z.stop ∙ d z.k l))
      go (no g) = omega (arith, sums-le z.k {j = k} (omega arith), z.total)

  sums-below : (j k : ℕ) → sums p j < sums p k → j < k
  sums-below j k h = go (dec_lt j k)
    where
      go : Dec (j < k) → j < k
      go (yes l) = l
      go (no l) = absurd (omega (arith, sums-le j {j = k} (omega arith)))

  sums-inj : {j k : ℕ} → Does p j → Does p k → sums p j ≡ sums p k → j ≡ k
  sums-inj {j} {k} dj dk e = go (dec_lt j k) (dec_lt k j)
    where
      go : Dec (j < k) → Dec (k < j) → j ≡ k
      go (yes l) m = absurd (omega (arith, sums_lt k dk l))
      go (no l) (yes m) = absurd (omega (arith, sums_lt j dj m))
      go (no l) (no m) = omega arith

  -- the list so far: total t, and stop q answered
  record Here (t q : ℕ) : Type 0 where
    pos : Pos p m₀ r₀ s₀ t
    small : t ≤ most_cycles
    stop : (q ≡ 0) ⊎ ((pos.n ≡ 0) × (stop_met (trace p pos.k) ≡ q))

  -- on a boundary, or off it
  view : {t : ℕ} (c : Pos p m₀ r₀ s₀ t)
      → ((c.n ≡ 0) × (t ≡ sums p c.k) × (reach m₀ t ≡ boundary (trace p c.k) (counts t c.k (sums_there p c.k)))) ⊎ ((0 < c.n) × Aloft (counts_last p c.k) c.u (reach m₀ t))
  view {t} c = go c.n c.total c.flying
    where
      go : (n : ℕ) → t + n ≡ sums p c.k → Flight (counts_last p c.k) c.u n (reach m₀ t) (boundary (trace p c.k) (counts_there p c.k))
          → ((n ≡ 0) × (t ≡ sums p c.k) × (reach m₀ t ≡ boundary (trace p c.k) (counts t c.k (sums_there p c.k)))) ⊎ ((0 < n) × Aloft (counts_last p c.k) c.u (reach m₀ t))
      go zero e f = let i : t ≡ sums p c.k = omega arith in inl (refl, i, f ∙ ap (λ u. boundary (trace p c.k) (counts u c.k (sums_there p c.k))) (sym i))
      go (suc n) e f = inr (omega arith, f.0)

  held-here : {t q : ℕ} → Here t q → held_away (reach m₀ t).control.phase q ≡ false
  unfolding boundary
  held-here {t} {q} h =
      ⊎_elim
      (λ e. rw e (zero-anywhere (reach m₀ t).control.phase))
      (λ e. ⊎_elim (λ v. rw v.2) (λ v. absurd (omega (arith, e.0, v.0))) (view h.pos))
      h.stop

  stop-here : {t q : ℕ} → Here t q → is_stop q ≡ true
  stop-here {t} {q} h = ⊎_elim (λ e. rw e) (λ e. is-stop q (rw e.1 at (stop-met (trace p h.pos.k)))) h.stop

  module _ (n : ℕ) (good : bad_length n ≡ false) (same_length : m₀.control.board.size ≡ n) (no-cycles : m₀.control.counts.cycles ≡ 0) (no_stop : m₀.control.stop ≡ 0) where
    abbrev Reaches : Call → ℕ → ℕ → Ran Machine → ℕ → Type 0
    Reaches c t q r t' = (q' : ℕ) × Answers p n t q c (reply_of r) t' q' × (r.machine ≡ holding (reach m₀ t') q') × Here t' q'

    abbrev Result : Call → ℕ → ℕ → Ran Machine → Type 0
    Result c t q r = (t' : ℕ) × (t' ≡ t + r.used) × Reaches c t q r t'

    -- the three sums do not pass the cycles
    within : {t : ℕ} (c : Pos p m₀ r₀ s₀ t) → total (reach m₀ t).control.counts.sums ≤ t
    unfolding boundary
    within {t} c =
        ⊎_elim
        (λ v. rw v.2 (omega (arith, v.1, sums-timed p c.k)))
        (λ v. rw v.1.sums (go c.k refl))
        (view c)
      where
        go : (k : ℕ) → c.k ≡ k → total (counts_last p k).sums ≤ t
        go zero e = omega arith
        go (suc k) e = omega (arith, c.past k e, sums-timed p k)

    -- 11 doesn't come up, whatever is lent
    sound : {t q : ℕ} → Here t q → (mem : List ℕ) → bad (lend (holding (reach m₀ t) q) mem) ≡ false
    unfolding bad
    sound {t} {q} h mem =
        let s = h.pos.sound in
        let m = reach m₀ t in
        let length-good : bad_length m.control.board.size ≡ false = rw (reach-size m₀ t ∙ same_length) good in
        let fine = phase-fine m.control.phase s.fine in
        rw (
          fine,
          length-good,
          eq-eqb (m.control.pipe.pc % 4) 0 s.aligned,
          lt-ltb m.control.pipe.pc (counters) s.range,
          le-ltb 15 m.control.flags (omega (arith, s.flags)),
          reach-cycles m₀ t no-cycles,
          le-ltb most_cycles t h.small,
          le-ltb t m.control.counts.retired (rw (reach-cycles m₀ t no-cycles) at s.counts),
          le-ltb t (total m.control.counts.sums) (within h.pos),
          stop-here h,
          held-here h,
        )
      where
        step-fine : (k : ℕ) (d : Due) → bad_step d k (reach m₀ t) ≡ false → bad_step d k (lend (holding (reach m₀ t) q) mem) ≡ false
        step-fine k no_word_there e = e
        step-fine k skipped e = e
        step-fine k (executes i) e = unfold bad_within in rw (rule-alike i (state_later (lend (holding (reach m₀ t) q) mem)) (state_later (reach m₀ t))) e

        phase-fine : (ph : Phase) → bad_phase ph (reach m₀ t) ≡ false → bad_phase ph (lend (holding (reach m₀ t) q) mem) ≡ false
        phase-fine Step1 e = refl
        phase-fine Refill1 e = refill-alike (reach m₀ t).control.pipe.ix (lend (holding (reach m₀ t) q) mem) (reach m₀ t) ∙ e
        phase-fine Refill2 e = refill-alike (reach m₀ t).control.pipe.ix (lend (holding (reach m₀ t) q) mem) (reach m₀ t) ∙ e
        phase-fine (Later k) e = step-fine k (due (reach m₀ t).control.pipe.ix (reach m₀ t).control.flags) e

    ran_on : (mem : List ℕ) (b t : ℕ) {r : Ran Machine} → RunAccepted n t mem b → Spent t b r ⊎ Halted t b r → Result (running mem b) t 0 r
    ran_on mem b t a (inl x) =
        rw x.is (
          x.to,
          x.sum,
          (
            0,
            spends a refl x.sum (λ t'' q'' z. omega (arith, later-stop x.pos.does z, x.pos.total)),
            sym (holding-none (reach m₀ x.to) (reach-stop m₀ x.to ∙ no_stop)),
            record { pos = x.pos; small = omega (arith, a.near, x.sum); stop = inl refl },
          ),
        )
    ran_on mem b t a (inr x) =
        let z : Stops p x.to (suc x.q) = record { k = x.pos.k; does = x.pos.does; total = omega (arith, x.pos.total, x.at); stop = x.stop; real = λ e. omega arith } in
        let d : x.u ≡ x.to - t = omega (arith, x.sum) in
        rw (x.is, d) (
          x.to,
          omega (arith, x.sum),
          (
            suc x.q,
            stops a refl z (omega (arith, x.sum)) (omega (arith, x.less, x.sum)),
            refl,
            record { pos = x.pos; small = omega (arith, x.less, x.sum, a.near); stop = inr (x.at, x.stop) },
          ),
        )

    accept : (mem : List ℕ) (b t q : ℕ) → RunAccepted n t mem b → Here t q → Result (running mem b) t q (unless q (holding (reach m₀ t) q) (run_from b (holding (reach m₀ t) q)))
    accept mem b t zero a h = rw (holding-none (reach m₀ t) (reach-stop m₀ t ∙ no_stop)) (ran_on mem b t a (running-on b h.pos))
    accept mem b t (suc q) a h =
        subst (Result (running mem b) t (suc q)) (loops.ends_by (holding (reach m₀ t) (suc q)) _ refl (λ e. omega arith))
        (t, omega arith, (suc q, repeats a (λ e. omega arith), refl, h))

    -- what a run refuses with, at total t
    abbrev number : List ℕ → ℕ → ℕ → ℕ
    number mem b t = pick (not (eqb (length mem) n)) 12 (pick (ltb 1000000 b) 3 (pick (ltb most_cycles (t + b)) 13 0))

    refuses : (mem : List ℕ) (b t q : ℕ) → Here t q → refusal (length mem) b (lend (holding (reach m₀ t) q) mem) ≡ number mem b t
    unfolding refusal
    refuses mem b t q h = rw (sound h mem, reach-size m₀ t ∙ same_length, reach-cycles m₀ t no-cycles)

    -- a run is accepted, or refused with a number that it answers
    abbrev Fate : List ℕ → ℕ → ℕ → ℕ → ℕ → Type 0
    Fate mem b t q r = ((r ≡ 0) × RunAccepted n t mem b) ⊎ ((RunAccepted n t mem b → ⊥) × ((z : ℕ) × (r ≡ suc z) × Answers p n t q (running mem b) (reply (suc z) 0) t q))

    fate : (mem : List ℕ) (b t q : ℕ) → Fate mem b t q (number mem b t)
    fate mem b t q = by_length (eqb (length mem) n) refl
      where
        by_total : (far : Bool) → length mem ≡ n → b ≤ 1000000 → ltb most_cycles (t + b) ≡ far → Fate mem b t q (pick far 13 0)
        by_total true l s e = let f : most_cycles < t + b = ltb-true _ _ e in inr (λ a. omega (arith, a.near, f), (12, refl, too_far l s f))
        by_total false l s e = inl (refl, record { lent = l; small = s; near = ltb-false _ _ e })

        by-budget : (many : Bool) → length mem ≡ n → ltb 1000000 b ≡ many → Fate mem b t q (pick many 3 (pick (ltb most_cycles (t + b)) 13 0))
        by-budget true l e = let f : 1000000 < b = ltb-true _ _ e in inr (λ a. omega (arith, a.small, f), (2, refl, too_many l f))
        by-budget false l e = by_total (ltb most_cycles (t + b)) l (ltb-false _ _ e) refl

        by_length : (same : Bool) → eqb (length mem) n ≡ same → Fate mem b t q (pick (not same) 12 (pick (ltb 1000000 b) 3 (pick (ltb most_cycles (t + b)) 13 0)))
        by_length true e = by-budget (ltb 1000000 b) (eqb-true _ _ e) refl
        by_length false e = inr (λ a. eqb-false _ _ e a.lent, (11, refl, other_length (eqb-false _ _ e)))

    -- the core after t cycles, with its memory
    abbrev At : Machine → ℕ → ℕ → Type 0
    At m t q = (m ≡ holding (reach m₀ t) q) × Here t q

    -- an accepted run, lent the memory
    runs : (mem : List ℕ) (b t q : ℕ) → number mem b t ≡ 0 → mem ≡ (reach m₀ t).memory → Here t q
        → unless q (holding (reach m₀ t) q) (run_from b (holding (reach m₀ t) q)) ≡ call (running mem b) (holding (reach m₀ t) q)
    unfolding run
    runs mem b t q z e h = rw (refuses mem b t q h, z, e)

    run-accepted : (mem : List ℕ) (b t q : ℕ) {m : Machine} → At m t q → RunAccepted n t mem b → mem ≡ m.memory
        → Reaches (running mem b) t q (call (running mem b) m) (t + (call (running mem b) m).used)
    run-accepted mem b t q (i, h) a =
        let c = running mem b in
        subst (λ m. mem ≡ m.memory → Reaches c t q (call c m) (t + (call c m).used)) (sym i)
        (λ e. ⊎_elim
        (λ f.
        let (t', s, r) = subst (Result c t q) (runs mem b t q f.0 e h) (accept mem b t q a h) in
        subst (Reaches c t q (call c (holding (reach m₀ t) q))) s r)
        (λ f. absurd (f.0 a))
        (fate mem b t q))

    -- a refused call, lent any bytes
    record Back (c : Call) (t q : ℕ) (m : Machine) : Type 0 where
      z : ℕ
      answers : Answers p n t q c (reply (suc z) 0) t q
      is : call c m ≡ ran (suc z) 0 (lend m (lent_to c))

    run-refused : (mem : List ℕ) (b t q : ℕ) {m : Machine} → At m t q → (RunAccepted n t mem b → ⊥) → Back (running mem b) t q m
    unfolding run
    run-refused mem b t q (i, h) x =
        subst (Back (running mem b) t q) (sym i)
        (⊎_elim
        (λ f. absurd (x f.1))
        (λ f. let (z, e, a) = f.1 in record { z = z; answers = a; is = rw (refuses mem b t q h, e, ne_eqb (suc z) 0 (λ y. omega arith)) })
        (fate mem b t q))

    -- sums below that of k are below t, where t is past the one before k
    before : {t : ℕ} (c : Pos p m₀ r₀ s₀ t) {j : ℕ} → j < c.k → sums p j < t
    before {t} c {j} h = go c.k refl
      where
        go : (k : ℕ) → c.k ≡ k → sums p j < t
        go zero e = absurd (omega arith)
        go (suc i) e = omega (arith, c.past i e, sums-le i {j = j} (omega arith))

    least : {t : ℕ} (c : Pos p m₀ r₀ s₀ t) (j : ℕ) → t ≤ sums p j → sums p c.k ≤ sums p j
    least c j h = go (dec_lt j c.k)
      where
        go : Dec (j < c.k) → sums p c.k ≤ sums p j
        go (yes l) = absurd (omega (arith, before c l))
        go (no l) = sums-le j (omega arith)

    distance-here : {t q : ℕ} (h : Here t q) → Distance p t h.pos.n
    distance-here h = let c = h.pos in record { k = c.k; does = c.does; sum = c.total; least = least c }

    -- ---- settle is the run whose budget is the distance

    left_here : {t q : ℕ} (h : Here t q) (mem : List ℕ) → cycles_left (lend (holding (reach m₀ t) q) mem) ≡ h.pos.n
    unfolding cycles_left boundary
    left_here {t} h mem = let c = h.pos in flight-left c.n (counts_last p c.k) c.u (reach m₀ t) (boundary (trace p c.k) (counts_there p c.k)) c.sound refl c.flying

    settle-runs : (mem : List ℕ) (t q : ℕ) {m : Machine} (a : At m t q) → call (settling mem) m ≡ call (running mem a.1.pos.n) m
    settle-runs mem t q {m} (i, h) =
        settle-laws.budget (length mem) (lend m mem)
        ∙ ap (λ b. run (length mem) b (lend m mem)) (ap (λ (x : Machine). cycles_left (lend x mem)) i ∙ left_here h mem)

    -- where a stop was answered the core is on a boundary, and no stop lies between t and the next
    as-settle : {mem : List ℕ} {t q d t' q' : ℕ} {r : Reply} → Distance p t d → d ≤ 19 → (q ≢ 0 → d ≡ 0) → Answers p n t q (running mem d) r t' q' → Answers p n t q (settling mem) r t' q'
    as-settle x b z (other_length l) = other_length l
    as-settle x b z (too_many l s) = absurd (omega arith)
    as-settle x b z (too_far l s f) = boundary_too_far l x f
    as-settle {mem = mem} {t = t} {q = q} x b z (repeats a y) =
        let e = z y in
        let o : t + 0 ≡ t = omega arith in
        subst (λ u. Answers p n t q (settling mem) (reply q 0) u q) o (settles (record { lent = a.lent; distance = subst (Distance p t) e x; near = omega (arith, a.near) }))
    as-settle x b z (stops a y s l g) = absurd (omega (arith, s.total, x.sum, x.least s.k (omega (arith, s.total))))
    as-settle {t = t} {d = d} x b z (spends a y e f) = rw (y, e) (settles (record { lent = a.lent; distance = x; near = a.near }))

    off-stop : {t q : ℕ} (h : Here t q) → q ≢ 0 → h.pos.n ≡ 0
    off-stop h y = ⊎_elim (λ e. absurd (y e)) (λ e. e.0) h.stop

    settles-here : (mem : List ℕ) {t q t' q' : ℕ} {r : Reply} (h : Here t q) → Answers p n t q (running mem h.pos.n) r t' q' → Answers p n t q (settling mem) r t' q'
    settles-here mem h = as-settle (distance-here h) h.pos.bound (off-stop h)

    one-accepted : (c : Call) (t q : ℕ) {m : Machine} → At m t q → Accepted p n t c → lent_to c ≡ m.memory → Reaches c t q (call c m) (t + (call c m).used)
    one-accepted (running mem b) t q a x e = run-accepted mem b t q a x e
    one-accepted (settling mem) t q {m} a (d, x) e =
        let d₁ = a.1.pos.n in
        let same : d ≡ d₁ = one-distance p t d d₁ x.distance (distance-here a.1) in
        let (q', y, i, h) = run-accepted mem d₁ t q a (record { lent = x.lent; small = omega (arith, a.1.pos.bound); near = omega (arith, x.near) }) e in
        subst (λ r. Reaches (settling mem) t q r (t + r.used)) (sym (settle-runs mem t q a)) (q', settles-here mem a.1 y, i, h)

    one-refused : (c : Call) (t q : ℕ) {m : Machine} → At m t q → Refused p n t c → Back c t q m
    one-refused (running mem b) t q a x = run-refused mem b t q a x
    one-refused (settling mem) t q a x =
        let b = run-refused mem a.1.pos.n t q a (λ y. x (a.1.pos.n, record { lent = y.lent; distance = distance-here a.1; near = y.near })) in
        record { z = b.z; answers = settles-here mem a.1 b.answers; is = settle-runs mem t q a ∙ b.is }

    all : {m m' : Machine} {t t' : ℕ} {cs : List Call} {rs : List Reply} (q : ℕ) → At m t q → Calls p n m t cs rs m' t'
        → (q' : ℕ) × AllAnswer p n t q cs rs t' q' × At m' t' q'
    all q h no_calls = (q, none, h)
    all {m} {m'} {t} {t'} q h (accepted {c = c} a e k) =
        let (q₁, x, i, h₁) = one-accepted c t q h a e in
        let (q₂, y, h₂) = all q₁ (i, h₁) k in
        (q₂, more x y, h₂)
    all {m} {m'} {t} {t'} q h (refused {c = c} x k) =
        let b = one-refused c t q h x in
        let (q₂, y, h₂) = all q (ap (λ (r : Ran Machine). lend r.machine m.memory) b.is ∙ h.0, h.1) k in
        (q₂, more (subst (λ r. Answers p n t q c (reply_of r) t q) (sym b.is) b.answers) y, h₂)

    further : {m : Machine} {t q : ℕ} → At m t q → (c : Call) → Further p n t m c
    further {m} {t} {q} h c = record { kept = λ x. ap (λ (r : Ran Machine). r.machine) (one-refused c t q h x).is; rises = called-rises c }
      where
        called-rises : (c : Call) → Rises m (call c m)
        called-rises (running mem b) = rises (length mem) b (lend m mem)
        called-rises (settling mem) = rw (settle-laws.budget (length mem) (lend m mem)) (rises (length mem) (cycles_left (lend m mem)) (lend m mem))

    -- 11 doesn't come up
    answers-never : {t q t' q' : ℕ} {c : Call} {r : Reply} → Answers p n t q c r t' q' → Stop q → (r.answer ≡ 11 → ⊥) × Stop q'
    answers-never (other_length l) s = ((λ e. omega arith), s)
    answers-never (too_many l b) s = ((λ e. omega arith), s)
    answers-never (too_far l b f) s = ((λ e. omega arith), s)
    answers-never (repeats a z) s = ((λ e. ⊎_elim (λ x. omega arith) (λ x. omega (arith, x.0)) s), s)
    answers-never (stops a z {t' = t'} {q' = q'} x g l) s =
        let m : Stop q' = subst Stop x.stop (stop-met (trace p x.k)) in
        ((λ e. ⊎_elim (λ y. omega arith) (λ y. omega (arith, y.0)) m), m)
    answers-never (spends a z e l) s = ((λ e. omega arith), inl refl)
    answers-never (boundary_too_far l x f) s = ((λ e. omega arith), s)
    answers-never (settles a) s = ((λ e. ⊎_elim (λ x. omega arith) (λ x. omega (arith, x.0)) s), s)

    all-never : {t q t' q' : ℕ} {cs : List Call} {rs : List Reply} → AllAnswer p n t q cs rs t' q' → Stop q → Never 11 rs
    all-never none s = never_none
    all-never (more a b) s = let x = answers-never a s in never_more x.0 (all-never b x.1)

    -- ---- what is left

    boundary-lead : (m : plain.Machine) (c : Counts) → lead (boundary m c) ≡ 2
    unfolding boundary lead
    boundary-lead m c = refl

    greatest-off : {t : ℕ} (c : Pos p m₀ r₀ s₀ t) → 0 < c.n → Greatest p t (pred c.k)
    greatest-off {t} c h = go c.k refl
      where
        go : (k : ℕ) → c.k ≡ k → Greatest p t (pred k)
        go zero e = record {
          fits = inr refl;
          most = λ j d l. absurd (omega (arith, sums-le j {j = 0} (omega arith), rw e at c.total));
        }
        go (suc i) e = record {
          fits = inl (λ j l. c.does j (omega arith), omega (arith, c.past i e));
          most = λ j d l. le_of_suc-le-suc (sums-below j (suc i) (omega (arith, rw e at c.total)));
        }

    greatest-at : {t : ℕ} (c : Pos p m₀ r₀ s₀ t) → t ≡ sums p c.k → Greatest p t c.k
    greatest-at {t} c e = record { fits = inl (c.does, omega arith); most = λ j d l. go j d l (dec_lt c.k j) }
      where
        go : (j : ℕ) → Does p j → sums p j ≤ t → Dec (c.k < j) → j ≤ c.k
        go j d l (yes h) = absurd (omega (arith, sums_lt j d h))
        go j d l (no h) = omega arith

    greatest : {t : ℕ} (c : Pos p m₀ r₀ s₀ t) → Greatest p t (reach m₀ t).control.counts.retired
    greatest {t} c =
        ⊎_elim (λ v. rw (v.2, boundary-counts) (greatest-at c v.1)) (λ v. rw (v.1.retired, last-retired p c.k) (greatest-off c v.0)) (view c)

    counted : {t : ℕ} (c : Pos p m₀ r₀ s₀ t) → t ≡ durations p (reach m₀ t).control.counts.retired + lead (reach m₀ t)
    counted {t} c =
        ⊎_elim
        (λ v. v.1 ∙ rw (v.2, boundary-lead, boundary-counts) (unfold sums in omega arith))
        (λ v. c.counted ∙ rw (v.1.beyond, v.1.retired, last-retired p c.k))
        (view c)

    three-sums : {t : ℕ} (c : Pos p m₀ r₀ s₀ t) → (reach m₀ t).control.counts.sums ≡ sums_at p t (reach m₀ t).control.counts.retired
    unfolding sums_at
    three-sums {t} c =
        ⊎_elim
        (λ v. rw (v.2, boundary-counts, le-ltb t 2 (omega (arith, v.1, sums-le c.k {j = 0} (omega arith), start-sum))))
        (λ v. rw (v.1.sums, v.1.retired) (go c.k refl v.0))
        (view c)
      where
        go : (k : ℕ) → c.k ≡ k → 0 < c.n → (counts_last p k).sums ≡ pick (ltb t 2) no_sums (sums_there p (counts_last p k).retired)
        go zero e h = rw (lt-ltb t 2 (omega (arith, rw e at c.total, start-sum)))
        go (suc k) e h = rw (le-ltb t 2 (omega (arith, c.past k e, sums-le k {j = 0} (omega arith), start-sum)))

    lead-held : (m : Machine) (q : ℕ) → lead (holding m q) ≡ lead m
    unfolding lead
    lead-held m q = refl

    leaves : {t q : ℕ} → Here t q → Leaves p m₀ (holding (reach m₀ t) q) t q
    leaves {t} {q} h = record {
      is = refl;
      lengths = reach-alike m₀ t;
      good = sound h (reach m₀ t).memory;
      cycles = reach-cycles m₀ t no-cycles;
      stop = refl;
      retired = greatest h.pos;
      counted = counted h.pos ∙ ap (λ x. durations p (reach m₀ t).control.counts.retired + x) (sym (lead-held (reach m₀ t) q));
      three_sums = three-sums h.pos;
      distance = (h.pos.n, distance-here h, h.pos.bound);
      there = λ k d e. ⊎_elim
          (λ v. let i : h.pos.k ≡ k = sums-inj h.pos.does d (omega (arith, v.1)) in ap (λ s. holding s q) (v.2 ∙ ap (λ j. boundary (trace p j) (counts t j (sums_there p j))) i))
          (λ v. absurd (omega (arith, v.0, h.pos.total, least h.pos k (omega arith))))
          (view h.pos);
      only = λ e. ⊎_elim (λ v. (h.pos.k, h.pos.does, sym v.1)) (λ v. absurd (off-step1 (reach m₀ t).control.phase v.1.off e)) (view h.pos);
      timed = λ e. ⊎_elim (λ v. rw (v.2, boundary-counts) (sums-timed p h.pos.k ∙ sym v.1)) (λ v. absurd (off-step1 (reach m₀ t).control.phase v.1.off e)) (view h.pos);
    }

    distance-left : {m : Machine} {t q : ℕ} → At m t q → Distance p t (cycles_left m)
    distance-left {m} {t} (i, h) = subst (Distance p t) (sym (ap cycles_left i ∙ left_here h (reach m₀ t).memory)) (distance-here h)

    -- a list that ends with an accepted settle ends with a sum
    ends-settled : {t q t' q' : ℕ} {cs : List Call} {rs : List Reply} → AllAnswer p n t q cs rs t' q' → EndsSettled cs rs → (k : ℕ) × Does p k × (sums p k ≡ t')
    ends-settled none e = elim e [ ]
    ends-settled (more (other_length l) none) (at_last x y) = absurd (x refl)
    ends-settled (more (boundary_too_far l d f) none) (at_last x y) = absurd (y refl)
    ends-settled (more (settles a) none) (at_last x y) = let d = a.distance in (d.k, d.does, sym d.sum)
    ends-settled (more a b) (later_on e) = ends-settled b e

    settled-there : {m : Machine} {t q : ℕ} → Leaves p m₀ m t q → (k : ℕ) × Does p k × (sums p k ≡ t) → m.control.phase ≡ Step1
    unfolding boundary
    settled-there l (k, d, e) = ap (λ (x : Machine). x.control.phase) (l.there k d e)

    left-behind : {m : Machine} {t q : ℕ} → At m t q → Leaves p m₀ m t q
    left-behind {m} {t} {q} h = subst (λ x. Leaves p m₀ x t q) (sym h.0) (leaves h.1)

-- ---- which lists there are

-- every call is accepted or refused: what `Calls` asks of a list is only that accepted calls are lent the one memory
pub accepted-or-refused : (p : plain.Machine) (n t d : ℕ) → Distance p t d → (c : Call) → Accepted p n t c ⊎ Refused p n t c
accepted-or-refused p n t d x (running mem budget) = go (eqb (length mem) n) refl (dec_lt 1000000 budget) (dec_lt most_cycles (t + budget))
  where
    go : (b : Bool) → eqb (length mem) n ≡ b → Dec (1000000 < budget) → Dec (most_cycles < t + budget) → Accepted p n t (running mem budget) ⊎ Refused p n t (running mem budget)
    go false e s f = inr (λ a. eqb-false _ _ e a.lent)
    go true e (yes s) f = inr (λ a. omega (arith, a.small))
    go true e (no s) (yes f) = inr (λ a. omega (arith, a.near))
    go true e (no s) (no f) = inl (record { lent = eqb-true _ _ e; small = omega arith; near = omega arith })
accepted-or-refused p n t d x (settling mem) = go (eqb (length mem) n) refl (dec_lt most_cycles (t + d))
  where
    go : (b : Bool) → eqb (length mem) n ≡ b → Dec (most_cycles < t + d) → Accepted p n t (settling mem) ⊎ Refused p n t (settling mem)
    go false e f = inr (λ a. eqb-false _ _ e a.1.lent)
    go true e (yes f) = inr (λ a. omega (arith, a.1.near, one-distance p t a.0 d a.1.distance x))
    go true e (no f) = inl (d, record { lent = eqb-true _ _ e; distance = x; near = omega arith })

-- ---- a start

module _ (g : List ℕ) (flags entry : ℕ) (mem : List ℕ) where
  -- what accepted starts hand back
  pub start-hands : (start g flags entry mem).answer ≡ 0 → beginning g flags entry mem ≡ fresh g flags entry mem
  unfolding start fresh
  start-hands e = rw e

  pub plain-hands : (start g flags entry mem).answer ≡ 0 → plain_beginning g flags entry mem ≡ plain_fresh g flags entry mem
  unfolding start plain_calls.start plain_fresh
  plain-hands e = rw e

  begun : Begins g flags entry mem
  unfolding start plain_calls.start
  begun = record {
    answer = plain-start.starts (length mem) entry flags;
    alike = refl;
    given = λ e. sym (plain-hands e);
    refused = λ x. (rw (ne_eqb (start_answer (length mem) entry flags) 0 x), rw (ne_eqb (start_answer (length mem) entry flags) 0 x));
  }

  begins : plain-start.Accepted (length mem) entry flags → (r : (plain_beginning g flags entry mem).plain.a < counters) (s : (plain_beginning g flags entry mem).plain.board.size ≤ most_bytes)
      → Here (plain_beginning g flags entry mem) (beginning g flags entry mem) r s 0 0
  unfolding reach trace sums durations
  begins a r s = record {
    pos = record {
      k = 0;
      n = 2;
      u = 0;
      does = λ j h. absurd (omega arith);
      total = refl;
      past = λ j h. absurd (omega arith);
      flying = started g flags entry mem;
      counted = refl;
      bound = omega arith;
      sound = record { short = s; range = r; aligned = a.placed.aligned; flags = omega (arith, a.small); counts = omega arith; fine = refl };
    };
    small = omega arith;
    stop = inl refl;
  }

  abbrev Lists : plain.Machine → Machine → Type 0
  Lists p m₀ = (cs : List Call) (rs : List Reply) (m : Machine) (t : ℕ) → Calls p (length mem) m₀ 0 cs rs m t → Follows p m₀ (length mem) cs rs m t

  from-beginning : (start g flags entry mem).answer ≡ 0 → Lists (plain_beginning g flags entry mem) (beginning g flags entry mem)
  unfolding start reach
  from-beginning e cs rs m t calls =
      let a = plain-start.given (length mem) entry flags e in
      let p = plain_beginning g flags entry mem in
      let m₀ = beginning g flags entry mem in
      let r : p.plain.a < counters = omega (arith, a.placed.inside, a.sized.most) in
      let s : p.plain.board.size ≤ most_bytes = a.sized.most in
      let l : bad_length (length mem) ≡ false = length-good (length mem) a.sized in
      let (q, answers, h) = all p m₀ r s (length mem) l refl refl refl 0 (refl, begins a r s) calls in
      record {
        stop = q;
        answers = answers;
        never = all-never p m₀ r s (length mem) l refl refl refl answers (inl refl);
        leaves = left-behind p m₀ r s (length mem) l refl refl refl h;
        distance = distance-left p m₀ r s (length mem) l refl refl refl h;
        on_boundary = λ x. settled-there p m₀ r s (length mem) l refl refl refl (left-behind p m₀ r s (length mem) l refl refl refl h) (ends-settled p m₀ r s (length mem) l refl refl refl answers x);
        further = further p m₀ r s (length mem) l refl refl refl h;
      }

-- Term 3
pub term3 : Term3
term3 = record {
  starts = begun;
  lists = λ g flags entry mem e.
      subst (λ p. Lists g flags entry mem p (fresh g flags entry mem)) (plain-hands g flags entry mem e)
      (subst (Lists g flags entry mem (plain_beginning g flags entry mem)) (start-hands g flags entry mem e) (from-beginning g flags entry mem e));
}
