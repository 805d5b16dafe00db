-- Settle: the cycles left come to the next boundary, and a run of so many finds no stop.
-- Assumes nothing.
use Rattle.std.specs.Prelude.{Option, ℕ, Some, None}
use Prim.Native.Nat.{ℕ, zero, suc, ◌%◌, ◌≤◌, ◌<◌}
use mathlib.Core.Path.{◌≡◌, refl, sym, ap, ◌∙◌}
use mathlib.Core.Bool.{Bool, true, false, not, ◌&&◌, ◌||◌, false≢true}
use mathlib.Core.Logic.{◌≢◌}
use native.Mathlib.Omega.{arith}
use lib.Dec.{eqb, ltb}
use borrow.Author.Tests.{le-ltb, ne_eqb, ltb-true, ltb-false, eqb-true}
use Rattle.bits.specs.Choice.{pick}
use Rattle.bits.specs.Bits.{field}
use Rattle.condition.specs.Condition.{passes}
use Rattle.word.specs.Reader.{read_of}
use Rattle.semantics.specs.Duration.{own_steps, stores_counter, duration_of}
use Rattle.semantics.proofs.Durations.{steps-short}
use Rattle.datapath.specs.Counter.{counters}
use Rattle.memory.specs.Lengths.{most_bytes, least_bytes}
use Rattle.plain.specs.Numbers.{most_budget}
use Rattle.plain.specs.Running.{Ran, ran, one_more, unless}
use Rattle.plain.specs.Running as engines
use Rattle.steps.specs.declared.Phase.{Phase}
use Rattle.steps.specs.declared.Phase.TheVariants.{Step1, Refill1, Refill2, Later}
use Rattle.semantics.proofs.Both.{or-false}
use Rattle.cycle.specs.declared.Counts.{Counts}
use Rattle.cycle.specs.Machine.{Machine}
use Rattle.cycle.specs.Cycle.{cycle}
use Rattle.cycle.specs.StopFound.{is_step1}
use Rattle.cycle.proofs.StopFound.{no_stop, is-step1}
use Rattle.stops.specs.Stops.{skipped, executes, due}
use Rattle.refusals.specs.Numbers.{bad_step, bad_phase, bad, refusal}
use Rattle.refusals.proofs.Refusals.{good, passed}
use Rattle.runs.specs.Run.{reach, run_from}
use Rattle.runs.specs.CyclesLeft.{left_in, cycles_left, InStep}
use Rattle.runs.proofs.BoundaryRuns.{run_on}
use Rattle.runs.proofs.Flight.{Flight}
use Rattle.pipeline.specs.Calls.{run, settle_refusal, settled, settle}
use Rattle.pipeline.specs.Settle.{Settles}
use Rattle.runs.proofs.Instruction.{own-steps}
use Rattle.runs.proofs.Countdown.{countdown}
use Rattle.pipeline.proofs.Sound.{to-mid, Sound, cycle-sound}

-- ---- from a sound core

off : (m : Machine) → is_step1 m.control.phase ≡ false → m.control.phase ≢ Step1
off m o e = false≢true (sym o ∙ ap is_step1 e)

-- a step under way of a record that is not bad is one that its word has
in_step : (m : Machine) (ph : Phase) (x : Option ℕ) → bad_phase ph m ≡ false → m.control.pipe.ix ≡ x → InStep ph x m.registers
unfolding due
in_step m Step1 x z e = tt
in_step m Refill1 x z e = tt
in_step m Refill2 x z e = tt
in_step m (Later k) None z e = false≢true (sym z ∙ ap (λ (y : Option ℕ). bad_step (due y m.control.flags) k m) e)
in_step m (Later k) (Some w) z e = go (passes (field w 28 4) m.control.flags) (sym (ap (λ (y : Option ℕ). bad_step (due y m.control.flags) k m) e) ∙ z)
  where
    go : (t : Bool) → bad_step (pick t (executes (read_of w)) skipped) k m ≡ false → suc k < own_steps (read_of w) m.registers
    go true z = omega (arith, (to-mid (read_of w) k m z).has, own-steps (read_of w) m.registers)
    go false z = absurd (false≢true (sym z))

one_less : (m : Machine) → Sound m → is_step1 m.control.phase ≡ false → cycles_left m ≡ suc (cycles_left (cycle m))
one_less m s o = countdown.one_less m (off m o) (in_step m m.control.phase m.control.pipe.ix s.fine refl)

none-there : (m : Machine) → is_step1 m.control.phase ≡ true → cycles_left m ≡ 0
none-there m s = countdown.none m (is-step1 m.control.phase s)

-- some are left: it is away from a boundary
away : (m : Machine) {n : ℕ} → cycles_left m ≡ suc n → is_step1 m.control.phase ≡ false
away m {n} e = go (is_step1 m.control.phase) refl
  where
    go : (b : Bool) → is_step1 m.control.phase ≡ b → b ≡ false
    go true s = absurd (omega (arith, none-there m s))
    go false s = refl

next-sound : (m : Machine) → Sound m → is_step1 m.control.phase ≡ false → Sound (cycle m)
next-sound m s o = cycle-sound m s (no_stop m o)

-- the cycle after which n are left
next-left : (m : Machine) {n : ℕ} → Sound m → cycles_left m ≡ suc n → cycles_left (cycle m) ≡ n
next-left m s e = omega (arith, one_less m s (away m e))

pub reach-first : (m : Machine) (n : ℕ) → reach (cycle m) n ≡ reach m (suc n)
unfolding reach
reach-first m zero = refl
reach-first m (suc n) = ap cycle (reach-first m n)

run-left : (n : ℕ) (m : Machine) → Sound m → cycles_left m ≡ n → run_from n m ≡ ran 0 n (reach m n)
unfolding engines.runs reach
run-left zero m s e = refl
run-left (suc n) m s e =
    let o = away m e in
    run_on n m (no_stop m o) ∙ ap one_more (run-left n (cycle m) (next-sound m s o) (next-left m s e)) ∙ ap (λ x. ran 0 (suc n) x) (reach-first m n)

-- no cycles left: a boundary
ends_there : (m : Machine) → Sound m → cycles_left m ≡ 0 → is_step1 m.control.phase ≡ true
ends_there m s e = go (is_step1 m.control.phase) refl
  where
    go : (b : Bool) → is_step1 m.control.phase ≡ b → b ≡ true
    go true o = refl
    go false o = absurd (omega (arith, one_less m s o))

to-boundary : (n : ℕ) (m : Machine) → Sound m → cycles_left m ≡ n → (reach m n).control.phase ≡ Step1
unfolding reach
to-boundary zero m s e = is-step1 m.control.phase (ends_there m s e)
to-boundary (suc n) m s e = ap (λ (x : Machine). x.control.phase) (sym (reach-first m n)) ∙ to-boundary n (cycle m) (next-sound m s (away m e)) (next-left m s e)

on-the-way : (j n : ℕ) (m : Machine) → Sound m → cycles_left m ≡ n → j < n → (reach m j).control.phase ≢ Step1
unfolding reach
on-the-way j zero m s e h p = absurd (omega arith)
on-the-way zero (suc n) m s e h p = false≢true (sym (away m e) ∙ ap is_step1 p)
on-the-way (suc j) (suc n) m s e h p =
    on-the-way j n (cycle m) (next-sound m s (away m e)) (next-left m s e) (omega arith) (ap (λ (x : Machine). x.control.phase) (reach-first m j) ∙ p)

-- a flight is as long as the cycles left
pub flight-left : (n : ℕ) (c : Counts) (u : ℕ) (m e : Machine) → Sound m → is_step1 e.control.phase ≡ true → Flight c u n m e → cycles_left m ≡ n
flight-left zero c u m e s z f = none-there m (ap (λ (x : Machine). is_step1 x.control.phase) f ∙ z)
flight-left (suc n) c u m e s z f =
    let o = f.0.off in
    one_less m s o ∙ ap suc (flight-left n c (suc u) (cycle m) e (next-sound m s o) z f.1)

-- ---- from a record that is not bad

to-sound : (m : Machine) → bad m ≡ false → Sound m
to-sound m e =
    let k = good m e in
    let c = m.control in
    record {
      short = ltb-false most_bytes c.board.size (or-false (not (eqb (c.board.size % 4) 0) || ltb c.board.size least_bytes) k.sized).1;
      range = ltb-true c.pipe.pc counters (both (eqb (c.pipe.pc % 4) 0) k.counter).1;
      aligned = eqb-true (c.pipe.pc % 4) 0 (both (eqb (c.pipe.pc % 4) 0) k.counter).0;
      flags = omega (arith, ltb-false 15 c.flags k.flags);
      counts = k.behind;
      fine = k.phase;
    }
  where
    both : (a : Bool) {b : Bool} → (a && b) ≡ true → (a ≡ true) × (b ≡ true)
    both true h = (refl, h)
    both false h = absurd (false≢true h)

-- ---- the budget

few-left : (m : Machine) → cycles_left m ≤ 20
unfolding cycles_left duration_of
few-left m = go m.control.phase m.control.pipe.ix
  where
    refilled : (b : Bool) → pick b 2 0 ≤ 2
    refilled true = omega arith
    refilled false = omega arith

    go : (ph : Phase) (x : Option ℕ) → left_in ph x m.registers ≤ 20
    go Step1 x = omega arith
    go Refill1 x = omega arith
    go Refill2 x = omega arith
    go (Later k) None = omega arith
    go (Later k) (Some w) = omega (arith, steps-short (read_of w) m.registers, refilled (stores_counter (read_of w)))

module _ (lent : ℕ) (m : Machine) where
  pub same-refusal : settle_refusal lent m ≡ refusal lent (cycles_left m) m
  unfolding settle_refusal refusal
  same-refusal = rw (le-ltb most_budget (cycles_left m) (omega (arith, few-left m)))

  not-bad : settle_refusal lent m ≡ 0 → bad m ≡ false
  unfolding settle_refusal
  not-bad e = (passed (bad m) (passed (not (eqb lent m.control.board.size)) e (λ z. omega arith)).1 (λ z. omega arith)).0

  same-run : settle lent m ≡ run lent (cycles_left m) m
  unfolding settle run
  same-run = rw (← same-refusal) (go (settle_refusal lent m) refl)
    where
      go : (r : ℕ) → settle_refusal lent m ≡ r → unless r m (unless m.control.stop m (settled m)) ≡ unless r m (unless m.control.stop m (run_from (cycles_left m) m))
      go zero e = ap (λ (x : Ran Machine). unless 0 m (unless m.control.stop m x)) (sym (run-left (cycles_left m) m (to-sound m (not-bad e)) refl))
      go (suc r) e = rw (ne_eqb (suc r) 0 (λ z. omega arith))

  -- a run by the cycles left
  pub settled-by : {n : ℕ} {r : Ran Machine} → n ≡ cycles_left m → r ≡ run lent n m → r ≡ settle lent m
  settled-by e h = h ∙ ap (λ n. run lent n m) e ∙ sym same-run

pub settle-laws : Settles
settle-laws = record {
  boundary = λ m e. to-boundary (cycles_left m) m (to-sound m e) refl;
  first = λ m e j h. on-the-way j (cycles_left m) m (to-sound m e) refl h;
  budget = same-run;
}
