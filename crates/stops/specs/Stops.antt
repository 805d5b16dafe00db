-- Which stop is met where an instruction begins, 21 to 25 in the paper's order (paper 01, "Plain machine" and "Numbers caused by the state").
use Rattle.std.specs.Prelude.{ℕ, Bool, false, not, ◌||◌, List, [], ◌∷◌, eqb, Option, Some, None}
use Rattle.bits.specs.Choice.{pick}
use Rattle.bits.specs.Bits.{field}
use Rattle.word.specs.declared.Single.{Single}
use Rattle.word.specs.declared.Instruction.{Instruction}
use Rattle.word.specs.Reader.{read_of, is_other}
use Rattle.condition.specs.Condition.{passes}
use Rattle.datapath.specs.Counter.{ahead}
use Rattle.memory.specs.declared.Board.{Board}
use Rattle.registers.specs.State.{State}
use Rattle.stops.specs.Numbers.{no_word, other_word, broken_rule, outside_memory, fetched_word}
use Rattle.stops.specs.Rules.{first_broken, single_rules, rule_broken}
use Rattle.stops.specs.Walk.{unanswered, same_word, walk_of}

-- what is due where an instruction begins: the one place that reads a word and asks its condition
pub data Due : Type 0 where
  no_word_there : Due
  skipped : Due
  executes : Instruction → Due

unfoldable pub due : Option ℕ → ℕ → Due
due None f = no_word_there
due (Some w) f = pick (passes (field w 28 4) f) (executes (read_of w)) skipped

-- some address is one at which nothing answers
abbrev pub outside : List ℕ → Board → Bool
outside [] board = false
outside (a ∷ rest) board = unanswered a board || outside rest board

-- some address is in the word at b
abbrev pub hits : List ℕ → ℕ → Board → Bool
hits [] b board = false
hits (a ∷ rest) b board = same_word a b board || hits rest b board

-- 24 where an address moved is outside, else 25 where one stored is fetched already
abbrev pub ordered : Bool → Bool → ℕ
ordered out fetched = pick out outside_memory (pick fetched fetched_word 0)

-- 24 and 25 of the addresses moved and stored by an instruction at a, all at once, which is what a walk over them finds
unfoldable pub moved_stop : List ℕ → List ℕ → ℕ → Board → ℕ
moved_stop moved stored a board = ordered (outside moved board) (hits stored (ahead a 4) board || hits stored (ahead a 8) board)

-- the stop that an instruction meets whose condition passes, or 0
unfoldable pub stop_of : Instruction → State → ℕ
stop_of i s =
    pick (is_other i) other_word
    (pick (not (eqb (rule_broken i s) 0)) broken_rule
    (walk_of i s).stop)

-- the same of a single transfer, by its address
abbrev pub single_stop_at : Single → ℕ → ℕ → Board → ℕ
single_stop_at i address a board =
    pick (not (eqb (first_broken 3 (single_rules i)) 0)) broken_rule (moved_stop (address ∷ []) (pick i.l [] (address ∷ [])) a board)

-- the stop of what is due, or 0: a failed condition meets none
abbrev pub stop_due : Due → State → ℕ
stop_due no_word_there s = no_word
stop_due skipped s = 0
stop_due (executes i) s = stop_of i s

unfoldable pub stop_for : Option ℕ → State → ℕ
stop_for x s = stop_due (due x s.status) s
