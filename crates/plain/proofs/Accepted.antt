-- What a start answers, by the paper's conditions; what an accepted start or run was given.
-- Assumes nothing.
use Prim.Native.Nat.{ℕ, ◌%◌, ◌≤◌}
use mathlib.Core.Path.{◌≡◌, refl, sym, ◌∙◌}
use mathlib.Core.Bool.{Bool, true, false, not, ◌&&◌, ◌||◌, false≢true}
use native.Mathlib.Omega.{arith}
use borrow.Author.Tests.{ltb-true, ltb-false, lt-ltb, eqb-true, eq-eqb, not-false}
use lib.Dec.{eqb, ltb, leb}
use Rattle.stops.specs.Numbers.{no_word, fetched_word}
use Rattle.bits.specs.Choice.{pick}
use Rattle.plain.specs.declared.Plain.{Plain}
use Rattle.plain.specs.Numbers.{most_budget, bad_entry, bad_flags, bad_budget, start_answer, is_stop, bad, refusal}
use Rattle.plain.specs.Refused.{budget_refused, record_refused, other_memory}
use Rattle.memory.specs.Lengths.{bad_length, GoodLength}
use Rattle.memory.proofs.Lengths.{neither, good_length, length-good}
use Rattle.plain.specs.Starts.{GoodEntry, Answered, length_bad, entry_bad, flags_bad, accepted, Starts}

-- the tests and the conditions

good-entry : (entry n : ℕ) → bad_entry entry n ≡ false → GoodEntry entry n
good-entry entry n e =
    let place = neither (not (eqb (entry % 4) 0)) (not (ltb entry n)) e in
    record {
      aligned = eqb-true (entry % 4) 0 (not-false _ place.0);
      inside = ltb-true entry n (not-false _ place.1);
    }

entry-good : (entry n : ℕ) → GoodEntry entry n → bad_entry entry n ≡ false
entry-good entry n g = rw (eq-eqb (entry % 4) 0 g.aligned, lt-ltb entry n g.inside)

pub starts : Starts
unfolding start_answer
starts n entry flags = by_length (bad_length n) refl
  where
    by_flags : (c : Bool) → bad_flags flags ≡ c → GoodLength n → GoodEntry entry n → Answered n entry flags (pick c 4 0)
    by_flags true e l i = flags_bad l i (ltb-true 15 flags e)
    by_flags false e l i = accepted l i (ltb-false 15 flags e)

    by-entry : (b : Bool) → bad_entry entry n ≡ b → GoodLength n → Answered n entry flags (pick b 2 (pick (bad_flags flags) 4 0))
    by-entry true e l = entry_bad l (λ g. false≢true (sym (entry-good entry n g) ∙ e))
    by-entry false e l = by_flags (bad_flags flags) refl l (good-entry entry n e)

    by_length : (a : Bool) → bad_length n ≡ a → Answered n entry flags (pick a 1 (pick (bad_entry entry n) 2 (pick (bad_flags flags) 4 0)))
    by_length true e = length_bad (λ g. false≢true (sym (length-good n g) ∙ e))
    by_length false e = by-entry (bad_entry entry n) refl (good_length n e)

-- what a start that answers 0 was given
pub record Accepted (n entry flags : ℕ) : Type 0 where
  pub sized : GoodLength n
  pub placed : GoodEntry entry n
  pub small : flags ≤ 15

pub given : (n entry flags : ℕ) → start_answer n entry flags ≡ 0 → Accepted n entry flags
given n entry flags e = go (starts n entry flags) e
  where
    go : {r : ℕ} → Answered n entry flags r → r ≡ 0 → Accepted n entry flags
    go (length_bad x) e = absurd (omega arith)
    go (entry_bad l x) e = absurd (omega arith)
    go (flags_bad l i x) e = absurd (omega arith)
    go (accepted l i s) e = record { sized = l; placed = i; small = s }

-- a run that is not refused has a budget of the size allowed
pub budgeted : (p : Plain) (lent n : ℕ) {q : ℕ} → q ≡ refusal p lent n → q ≡ 0 → n ≤ most_budget
unfolding refusal
budgeted p lent n e z = by_length (not (eqb lent p.board.size)) (sym e ∙ z)
  where
    by-budget : (a : Bool) → bad_budget n ≡ a → pick a budget_refused 0 ≡ 0 → n ≤ most_budget
    by-budget true t f = absurd (omega arith)
    by-budget false t f = ltb-false most_budget n t

    by-record : (a : Bool) → pick a record_refused (pick (bad_budget n) budget_refused 0) ≡ 0 → n ≤ most_budget
    by-record true f = absurd (omega arith)
    by-record false f = by-budget (bad_budget n) refl f

    by_length : (a : Bool) → pick a other_memory (pick (bad p) record_refused (pick (bad_budget n) budget_refused 0)) ≡ 0 → n ≤ most_budget
    by_length true f = absurd (omega arith)
    by_length false f = by-record (bad p) f

-- what a run that is not refused finds held: a stop, or none
pub standing : (p : Plain) (lent n : ℕ) → 0 ≡ refusal p lent n → is_stop p.stop ≡ true
unfolding refusal bad
standing p lent n e = by_length (not (eqb lent p.board.size)) (sym e)
  where
    by-record : (a : Bool) → bad p ≡ a → pick a record_refused (pick (bad_budget n) budget_refused 0) ≡ 0 → is_stop p.stop ≡ true
    by-record true t f = absurd (omega (arith, f))
    by-record false t f = not-false _ (neither _ (not (is_stop p.stop)) t).1

    by_length : (a : Bool) → pick a other_memory (pick (bad p) record_refused (pick (bad_budget n) budget_refused 0)) ≡ 0 → is_stop p.stop ≡ true
    by_length true f = absurd (omega (arith, f))
    by_length false f = by-record (bad p) refl f

-- a number that a record can hold and that no stop has is 0
pub no-stop-zero : (q : ℕ) → is_stop q ≡ true → false ≡ (leb no_word q && leb q fetched_word) → q ≡ 0
no-stop-zero q h e = go (eqb q 0) refl h
  where
    go : (b : Bool) → eqb q 0 ≡ b → (b || (leb no_word q && leb q fetched_word)) ≡ true → q ≡ 0
    go true t f = eqb-true q 0 t
    go false t f = absurd (false≢true (e ∙ f))
