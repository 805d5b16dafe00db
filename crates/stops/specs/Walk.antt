-- A walk over the registers that an instruction moves, those that a block names, lowest first (paper 02 §5): the stop that it finds, 24, 25 or 0, and how
-- many it looked at.
use Rattle.std.specs.Prelude.{ℕ, ◌+◌, ◌/◌, Bool, not, ◌||◌, ◌&&◌, List, [], ◌∷◌, ltb, eqb}
use Rattle.bits.specs.Choice.{pick}
use Rattle.word.specs.declared.Instruction.{Instruction}
use Rattle.datapath.specs.Counter.{ahead}
use Rattle.memory.specs.declared.Board.{Board}
use Rattle.memory.specs.Memory.{place, limit}
use Rattle.registers.specs.State.{State}
use Rattle.stops.specs.Numbers.{outside_memory, fetched_word}
use Rattle.stops.specs.Moves.{Move, moves_of, loads}

-- an address at which nothing answers
abbrev pub unanswered : ℕ → Board → Bool
unanswered at board = not (ltb at (limit board))

-- an address in the word at b
abbrev pub same_word : ℕ → ℕ → Board → Bool
same_word at b board = eqb (place board at / 4) (place board b / 4)

-- an address in a word that an instruction at a finds fetched already, at A+4 or A+8
abbrev pub fetched_ahead : ℕ → ℕ → Board → Bool
fetched_ahead at a board = same_word at (ahead a 4) board || same_word at (ahead a 8) board

pub record Walked : Type 0 where
  pub stop : ℕ
  pub looked : ℕ

-- what a walk comes to behind n registers that met no 24: a 24 is the stop also where one of them met 25
abbrev pub behind : ℕ → Bool → Walked → Walked
behind n fetched later = record {
  stop = pick (eqb later.stop outside_memory) outside_memory (pick fetched fetched_word later.stop);
  looked = n + later.looked;
}

-- of an instruction at a: up to and with the first register that meets 24, else all
unfoldable pub walk : List Move → Bool → ℕ → Board → Walked
walk [] load a board = record { stop = 0; looked = 0 }
walk (m ∷ ms) load a board =
    pick (unanswered m.address board)
    (record { stop = outside_memory; looked = 1 })
    (behind 1 (not load && fetched_ahead m.address a board) (walk ms load a board))

-- of an instruction in a state
abbrev pub walk_of : Instruction → State → Walked
walk_of i s = walk (moves_of i s) (loads i) s.a s.memory.board
