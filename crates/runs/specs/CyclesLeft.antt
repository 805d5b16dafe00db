-- The cycles left of the instruction or refill under way, to the next boundary (paper 02, §2).
use Rattle.std.specs.Prelude.{ℕ, suc, ◌-◌, ◌<◌, ◌≡◌, ◌≢◌, List, Option, Some, None}
use Rattle.word.specs.Reader.{read_of}
use Rattle.semantics.specs.Duration.{own_steps, duration_of}
use Rattle.steps.specs.declared.Phase.{Phase}
use Rattle.steps.specs.declared.Phase.TheVariants.{Step1, Refill1, Refill2, Later}
use Rattle.cycle.specs.Machine.{Machine}
use Rattle.cycle.specs.Cycle.{cycle}

-- what is left of the duration of the word in IX, with so many of its cycles done
abbrev pub rest : Option ℕ → ℕ → List ℕ → ℕ
rest None done g = 0
rest (Some w) done g = duration_of (read_of w) g - done

-- none at a boundary; before step k + 2, k + 1 cycles are done
abbrev pub left_in : Phase → Option ℕ → List ℕ → ℕ
left_in Step1 ix g = 0
left_in Refill1 ix g = 2
left_in Refill2 ix g = 1
left_in (Later k) ix g = rest ix (suc k) g

-- by the phase, the word in IX and, of a multiply, the present value of Rs
unfoldable pub cycles_left : Machine → ℕ
cycles_left m = left_in m.control.phase m.control.pipe.ix m.registers

-- in a step that the word in IX has
abbrev pub InStep : Phase → Option ℕ → List ℕ → Type 0
InStep Step1 ix g = Unit {0}
InStep Refill1 ix g = Unit {0}
InStep Refill2 ix g = Unit {0}
InStep (Later k) None g = ⊥
InStep (Later k) (Some w) g = suc k < own_steps (read_of w) g

-- they are what single cycles need: none at a boundary, and else each cycle takes one
pub record Countdown : Type 0 where
  pub none : (m : Machine) → m.control.phase ≡ Step1 → cycles_left m ≡ 0
  pub one_less : (m : Machine) → m.control.phase ≢ Step1 → InStep m.control.phase m.control.pipe.ix m.registers → cycles_left m ≡ suc (cycles_left (cycle m))
