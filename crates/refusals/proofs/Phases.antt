-- A record that isn't bad is in no step above the eighteenth.
-- Assumes nothing.
use Prim.Native.Nat.{ℕ, suc, ◌<◌}
use mathlib.Core.Path.{◌≡◌, sym, subst}
use mathlib.Core.Bool.{false, not, false≢true}
use native.Mathlib.Omega.{arith}
use lib.Dec.{eqb, ltb}
use borrow.Author.Tests.{ltb-true, not-false}
use Rattle.word.specs.Reader.{is_other}
use Rattle.stops.specs.Rules.{rule_broken}
use Rattle.stops.specs.Stops.{Due, no_word_there, skipped, executes, due}
use Rattle.semantics.specs.Duration.{own_steps}
use Rattle.semantics.proofs.Durations.{steps-short}
use Rattle.steps.specs.declared.Phase.{Phase}
use Rattle.steps.specs.declared.Phase.TheVariants.{Later}
use Rattle.semantics.proofs.Both.{or-false}
use Rattle.cycle.specs.Machine.{Machine}
use Rattle.refusals.specs.Numbers.{state_later, bad_within, bad_step, bad_phase, bad}
use Rattle.refusals.proofs.Refusals.{good}

step-early : (d : Due) (k : ℕ) (m : Machine) → bad_step d k m ≡ false → k < 17
unfolding bad_within
step-early no_word_there k m e = absurd (false≢true (sym e))
step-early skipped k m e = absurd (false≢true (sym e))
step-early (executes i) k m e =
    let g = m.registers in
    let e1 = or-false (is_other i) e in
    let e2 = or-false (not (eqb (rule_broken i (state_later m)) 0)) e1.1 in
    let e3 = or-false (not (ltb (suc k) (own_steps i g))) e2.1 in
    let l : suc k < own_steps i g = ltb-true _ _ (not-false (ltb (suc k) (own_steps i g)) e3.0) in
    omega (arith, l, steps-short i g)

pub early : (m : Machine) → bad m ≡ false → (k : ℕ) → m.control.phase ≡ Later k → k < 17
early m e k h = step-early (due m.control.pipe.ix m.control.flags) k m (subst (λ (ph : Phase). bad_phase ph m ≡ false) h (good m e).phase)
