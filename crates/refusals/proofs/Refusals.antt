-- What a record that isn't bad has, and what an accepted run may rely on.
-- Assumes nothing.
use Rattle.std.specs.Prelude.{Option, Result, Ok, Err, MatchResult, is_ok, leb}
use Rattle.std.specs.Result.{result_ok}
use Prim.Native.Nat.{ℕ, ◌+◌, ◌≤◌}
use mathlib.Core.Path.{◌≡◌, refl, sym, ap, ◌∙◌}
use mathlib.Core.Bool.{Bool, true, false, not, ◌&&◌}
use native.Mathlib.Omega.{arith}
use lib.Dec.{eqb, ltb}
use borrow.Author.Tests.{ltb-false, not-false}
use Rattle.bits.specs.Choice.{pick}
use Rattle.stops.specs.declared.reason.Stop.{Stop}
use Rattle.stops.specs.declared.reason.NoStop.{NoStop}
use Rattle.stops.specs.Numbers.{no_word, fetched_word, number_of, held_number}
use Rattle.plain.proofs.Accepted.{no-stop-zero}
use Rattle.memory.specs.Lengths.{bad_length}
use Rattle.plain.specs.Numbers.{bad_flags, bad_budget, is_counter, is_stop}
use Rattle.semantics.proofs.Both.{or-false}
use Rattle.semantics.specs.Sums.{total}
use Rattle.cycle.specs.declared.Control.{Control}
use Rattle.cycle.specs.Machine.{Machine, most_cycles}
use Rattle.refusals.specs.Numbers.{bad_counts, bad_phase, held_away, bad, refusal}

-- what a record that is not bad passes
pub record Good (m : Machine) : Type 0 where
  pub sized : bad_length m.control.board.size ≡ false
  pub counter : is_counter m.control.pipe.pc ≡ true
  pub flags : bad_flags m.control.flags ≡ false
  pub few : m.control.counts.cycles ≤ most_cycles
  pub behind : m.control.counts.retired ≤ m.control.counts.cycles
  pub timed : total m.control.counts.sums ≤ m.control.counts.cycles
  pub stop : is_stop m.control.stop ≡ true
  pub phase : bad_phase m.control.phase m ≡ false

pub good : (m : Machine) → bad m ≡ false → Good m
unfolding bad
good m e =
    let c = m.control in
    let e1 = or-false (bad_length c.board.size) e in
    let e2 = or-false (not (is_counter c.pipe.pc)) e1.1 in
    let e3 = or-false (bad_flags c.flags) e2.1 in
    let e4 = or-false (bad_counts c.counts) e3.1 in
    let e5 = or-false (ltb most_cycles c.counts.cycles) e4.0 in
    let e6 = or-false (ltb c.counts.cycles c.counts.retired) e5.1 in
    let e7 = or-false (not (is_stop c.stop)) e4.1 in
    record {
      sized = e1.0;
      counter = not-false (is_counter c.pipe.pc) e2.0;
      flags = e3.0;
      few = ltb-false most_cycles c.counts.cycles e5.0;
      behind = ltb-false c.counts.cycles c.counts.retired e6.0;
      timed = ltb-false c.counts.cycles (total c.counts.sums) e6.1;
      stop = not-false (is_stop c.stop) e7.0;
      phase = (or-false (held_away c.phase c.stop) e7.1).1;
    }

-- an accepted run has room to count its cycles
pub record Granted (budget : ℕ) (c : Control) : Type 0 where
  pub room : c.counts.cycles + budget ≤ most_cycles
  pub behind : c.counts.retired ≤ c.counts.cycles
  pub timed : total c.counts.sums ≤ c.counts.cycles
  pub standing : is_stop c.stop ≡ true

-- a test with a number passed
pub passed : (b : Bool) {q m : ℕ} → pick b q m ≡ 0 → (q ≡ 0 → ⊥) → (b ≡ false) × (m ≡ 0)
passed true e n = absurd (n e)
passed false e n = (refl, e)

pub granted : (lent budget : ℕ) (m : Machine) → refusal lent budget m ≡ 0 → Granted budget m.control
unfolding refusal
granted lent budget m e =
    let r = passed (not (eqb lent m.control.board.size)) e (λ z. omega arith) in
    let b = passed (bad m) r.1 (λ z. omega arith) in
    let c = passed (bad_budget budget) b.1 (λ z. omega arith) in
    let t = passed (ltb most_cycles (m.control.counts.cycles + budget)) c.1 (λ z. omega arith) in
    record {
      room = ltb-false most_cycles (m.control.counts.cycles + budget) t.0;
      behind = (good m b.0).behind;
      timed = (good m b.0).timed;
      standing = (good m b.0).stop;
    }

-- the stop that a number held stands for
pub held-as : (q : ℕ) (r : Result Stop NoStop) {o : Option Stop} → o ≡ result_ok r → is_ok r ≡ (leb no_word q && leb q fetched_word)
    → MatchResult r (λ (stop : Stop). number_of stop ≡ q) (λ (n : NoStop). Unit {0}) → is_stop q ≡ true → held_number o ≡ q
held-as q (Ok stop) e k g h = ap held_number e ∙ g
held-as q (Err none) e k g h = ap held_number e ∙ sym (no-stop-zero q h k)
