-- What makes a record bad, and what a run refuses with (paper 01, "Numbers caused by the state").
use Rattle.std.specs.Prelude.{ℕ, suc, ◌+◌, ◌-◌, Bool, true, false, not, ◌&&◌, ◌||◌, ltb, eqb, Option, Some, None}
use Rattle.bits.specs.Choice.{pick}
use Rattle.bits.specs.Bits.{field}
use Rattle.word.specs.declared.Instruction.{Instruction}
use Rattle.word.specs.Reader.{read_of, is_other}
use Rattle.datapath.specs.Counter.{behind}
use Rattle.registers.specs.State.{State, state}
use Rattle.transfer.specs.Block.{count}
use Rattle.semantics.specs.Duration.{own_steps, stores_counter}
use Rattle.semantics.specs.Sums.{total}
use Rattle.stops.specs.Rules.{rule_broken}
use Rattle.stops.specs.Moves.{span}
use Rattle.stops.specs.Stops.{Due, no_word_there, skipped, executes, due, outside}
use Rattle.plain.specs.Refused.{budget_refused, record_refused, other_memory, too_many_cycles}
use Rattle.memory.specs.Lengths.{bad_length}
use Rattle.plain.specs.Numbers.{bad_flags, bad_budget, is_counter, is_stop}
use Rattle.steps.specs.declared.Phase.{Phase}
use Rattle.steps.specs.declared.Phase.TheVariants.{Step1, Refill1, Refill2, Later}
use Rattle.cycle.specs.declared.Counts.{Counts}
use Rattle.cycle.specs.Machine.{Machine, lent, most_cycles}

-- the words still to be moved at step k + 2
abbrev pub left_to_move : Instruction → ℕ → ℕ
left_to_move (Instruction.Processing i) k = 0
left_to_move (Instruction.Single i) k = 1 - k
left_to_move (Instruction.Block i) k = count i - k
left_to_move (Instruction.Branch i) k = 0
left_to_move (Instruction.Multiply i) k = 0
left_to_move (Instruction.Other word) k = 0

-- the state in which the instruction under way stands, in a step from 2 on: A is PC-12
abbrev pub state_later : Machine → State
state_later m = state m.registers m.control.flags (behind m.control.pipe.pc 12) (lent m)

-- step k + 2 of an instruction that meets 22 or 23, lacks that step, or has a word still to be moved outside memory
unfoldable pub bad_within : Instruction → ℕ → Machine → Bool
bad_within i k m =
    is_other i
    || (not (eqb (rule_broken i (state_later m)) 0)
    || (not (ltb (suc k) (own_steps i m.registers))
    || outside (span (left_to_move i k) m.control.latches.address) m.control.board))

-- a blank word has no step 2, nor has one that fails its condition
abbrev pub bad_step : Due → ℕ → Machine → Bool
bad_step no_word_there k m = true
bad_step skipped k m = true
bad_step (executes i) k m = bad_within i k m

-- an instruction that can store the counter: it breaks no rule of 23, and its class and fields do (paper 02, §3)
abbrev pub can_store : Instruction → State → Bool
can_store i s = eqb (rule_broken i s) 0 && stores_counter i

-- the condition that never passes
abbrev pub never : ℕ
never = 15

-- such a word: by itself, since its instruction may have changed the flags that its condition passed
abbrev pub can_store_counter : ℕ → State → Bool
can_store_counter w s = not (eqb (field w 28 4) never) && can_store (read_of w) s

-- a refill of a word that can't store the counter; of no word it is the start's. The rules of 23 take a state, and go by none of it
abbrev pub bad_refill : Option ℕ → Machine → Bool
bad_refill None m = false
bad_refill (Some w) m = not (can_store_counter w (state_later m))

abbrev pub bad_phase : Phase → Machine → Bool
bad_phase Step1 m = false
bad_phase Refill1 m = bad_refill m.control.pipe.ix m
bad_phase Refill2 m = bad_refill m.control.pipe.ix m
bad_phase (Later k) m = bad_step (due m.control.pipe.ix m.control.flags) k m

-- a stop held away from step 1
abbrev pub held_away : Phase → ℕ → Bool
held_away Step1 stop = false
held_away Refill1 stop = not (eqb stop 0)
held_away Refill2 stop = not (eqb stop 0)
held_away (Later k) stop = not (eqb stop 0)

-- cycles above 2^40, or retired or the three sums together above the cycles
abbrev pub bad_counts : Counts → Bool
bad_counts n = ltb most_cycles n.cycles || (ltb n.cycles n.retired || ltb n.cycles (total n.sums))

-- 11: a bad record
unfoldable pub bad : Machine → Bool
bad m =
    let c = m.control in
    bad_length c.board.size
    || (not (is_counter c.pipe.pc)
    || (bad_flags c.flags
    || (bad_counts c.counts
    || (not (is_stop c.stop)
    || (held_away c.phase c.stop
    || bad_phase c.phase m)))))

-- what a run that is lent so many bytes refuses with, or 0: 12, 11, 3, 13
unfoldable pub refusal : ℕ → ℕ → Machine → ℕ
refusal lent budget m =
    pick (not (eqb lent m.control.board.size)) other_memory
    (pick (bad m) record_refused
    (pick (bad_budget budget) budget_refused
    (pick (ltb most_cycles (m.control.counts.cycles + budget)) too_many_cycles
    0)))

-- the number with which a call ends before its first cycle, or 0: a refusal, else the stop held
abbrev pub at_once : ℕ → ℕ → Machine → ℕ
at_once lent budget m = pick (eqb (refusal lent budget m) 0) m.control.stop (refusal lent budget m)
