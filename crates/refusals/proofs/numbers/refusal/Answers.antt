use mathlib.Core.List.{[]}
use Rattle.cycle.specs.Machine.{machine}
use borrow.Author.Tests.{eq-eqb, ne_eqb, le-ltb, lt-ltb, ltb-false}
use mathlib.Core.Path.{sym, ◌∙◌}
use native.Mathlib.Omega.{arith}
use Rattle.refusals.specs.Numbers.{refusal}
use Rattle.refusals.proofs.Refusals.{good}
use Rattle.refusals.proofs.numbers.refusal.Goals as goal

pub returns-then-lent-c : goal.returns-then-lent-c
unfolding refusal
returns-then-lent-c c mem = simp (ne_eqb _ _ c.if-lent-c.true)

pub returns-then-bad : goal.returns-then-bad
unfolding refusal
returns-then-bad c mem = simp (eq-eqb _ _ c.if-lent-c.false, sym (c.bad.ensures mem) ∙ c.if-bad.true)

pub returns-then-budget_is_bad : goal.returns-then-budget_is_bad
unfolding refusal
returns-then-budget_is_bad c mem = simp (eq-eqb _ _ c.if-lent-c.false, sym (c.bad.ensures mem) ∙ c.if-bad.false, sym c.budget_is_bad.ensures ∙ c.if-budget_is_bad.true)

pub overflow_add-c : goal.overflow_add-c
overflow_add-c c = record { fits = omega (arith, (good (machine _ _ []) (sym (c.bad.ensures []) ∙ c.if-bad.false)).few, ltb-false 1000000 c.args.budget (sym c.budget_is_bad.ensures ∙ c.if-budget_is_bad.false)) }

pub returns-then-c-budget-gt-MOST_CYCLES : goal.returns-then-c-budget-gt-MOST_CYCLES
unfolding refusal
returns-then-c-budget-gt-MOST_CYCLES c mem = simp (eq-eqb _ _ c.if-lent-c.false, sym (c.bad.ensures mem) ∙ c.if-bad.false, sym c.budget_is_bad.ensures ∙ c.if-budget_is_bad.false, lt-ltb _ _ c.if-c-budget-gt-MOST_CYCLES.true)

pub returns-else-c-budget-gt-MOST_CYCLES : goal.returns-else-c-budget-gt-MOST_CYCLES
unfolding refusal
returns-else-c-budget-gt-MOST_CYCLES c mem = simp (eq-eqb _ _ c.if-lent-c.false, sym (c.bad.ensures mem) ∙ c.if-bad.false, sym c.budget_is_bad.ensures ∙ c.if-budget_is_bad.false, le-ltb _ _ c.if-c-budget-gt-MOST_CYCLES.false)
