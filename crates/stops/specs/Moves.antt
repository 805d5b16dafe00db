-- What an instruction moves: registers, and the addresses that they are moved to or from, lowest first.
use Rattle.std.specs.Prelude.{ℕ, zero, suc, ◌+◌, Bool, true, List, [], ◌∷◌}
use Rattle.bits.specs.Choice.{pick}
use Rattle.word.specs.declared.Instruction.{Instruction}
use Rattle.datapath.specs.Counter.{ahead}
use Rattle.registers.specs.State.{State}
use Rattle.transfer.specs.Single as single
use Rattle.transfer.specs.Block as block

pub record Move : Type 0 where
  pub register : ℕ
  pub address : ℕ

-- registers moved to or from addresses 4 apart; one that would wrap at 2^32 follows one that is outside every memory, so they count on
abbrev pub moves_from : List ℕ → ℕ → List Move
moves_from [] a = []
moves_from (x ∷ xs) a = record { register = x; address = a } ∷ moves_from xs (a + 4)

unfoldable pub moves_of : Instruction → State → List Move
moves_of (Instruction.Processing i) s = []
moves_of (Instruction.Single i) s = moves_from (i.rd ∷ []) (single.address_of i s.registers s.status (ahead s.a 8))
moves_of (Instruction.Block i) s = moves_from (block.named i.list) (block.lowest_address i s.registers)
moves_of (Instruction.Branch i) s = []
moves_of (Instruction.Multiply i) s = []
moves_of (Instruction.Other word) s = []

-- it moves nothing into memory
abbrev pub loads : Instruction → Bool
loads (Instruction.Processing i) = true
loads (Instruction.Single i) = i.l
loads (Instruction.Block i) = i.l
loads (Instruction.Branch i) = true
loads (Instruction.Multiply i) = true
loads (Instruction.Other word) = true

abbrev pub addresses : List Move → List ℕ
addresses [] = []
addresses (m ∷ ms) = m.address ∷ addresses ms

-- the addresses moved, and those stored
abbrev pub moved_by : Instruction → State → List ℕ
moved_by i s = addresses (moves_of i s)

abbrev pub stored_by : Instruction → State → List ℕ
stored_by i s = pick (loads i) [] (moved_by i s)

-- n addresses from a, 4 apart
abbrev pub span : ℕ → ℕ → List ℕ
span zero a = []
span (suc n) a = a ∷ span n (a + 4)
