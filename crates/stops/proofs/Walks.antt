-- A walk finds the stop that all addresses at once have.
-- Assumes nothing.
use Prim.Native.Nat.{ℕ}
use mathlib.Core.Path.{◌≡◌, refl, ap}
use mathlib.Core.Bool.{Bool, true, false, not}
use mathlib.Core.List.{List, [], ◌∷◌}
use native.Mathlib.Omega.{arith}
use lib.Dec.{eqb}
use Rattle.bits.specs.Choice.{pick}
use Rattle.word.specs.declared.Instruction.{Instruction}
use Rattle.word.specs.Reader.{is_other}
use Rattle.memory.specs.declared.Board.{Board}
use Rattle.registers.specs.State.{State}
use Rattle.stops.specs.Rules.{rule_broken}
use Rattle.stops.specs.Moves.{Move, loads, moves_of, addresses, moved_by, stored_by}
use Rattle.stops.specs.Walk.{walk}
use Rattle.stops.specs.Stops.{moved_stop, stop_of}
use Rattle.stops.specs.Looks.{AllAtOnce}

-- ---- the stop

module _ (a : ℕ) (board : Board) where
  abbrev all_at_once : List Move → Bool → ℕ
  all_at_once ms load = moved_stop (addresses ms) (pick load [] (addresses ms)) a board

  pub found : (ms : List Move) (load : Bool) → (walk ms load a board).stop ≡ all_at_once ms load
  unfolding walk moved_stop
  found [] true = refl
  found [] false = refl
  found (m ∷ ms) true = let r = found ms true in grind (arith, r)
  found (m ∷ ms) false = let r = found ms false in grind (arith, r)

pub all-at-once : AllAtOnce
all-at-once i s = found s.a s.memory.board (moves_of i s) (loads i)

-- so the stop of an instruction is what it was
pub stop-was : (i : Instruction) (s : State)
    → stop_of i s ≡ pick (is_other i) 22 (pick (not (eqb (rule_broken i s) 0)) 23 (moved_stop (moved_by i s) (stored_by i s) s.a s.memory.board))
unfolding stop_of
stop-was i s = ap (λ (q : ℕ). pick (is_other i) 22 (pick (not (eqb (rule_broken i s) 0)) 23 q)) (all-at-once i s)
