-- The four modes of a block by the address of its first word, going up, or of its last, going down.
-- Assumes nothing.
use Rattle.std.proofs.Common.{◌≡◌, ℕ, ◌≤◌, List, arith}
use Rattle.word.specs.declared.Block.{Block}
use Rattle.transfer.specs.Block.{count, changed_base, lowest_address}
use Rattle.transfer.specs.Modes.{named_below, BlockModes}
use Rattle.transfer.proofs.NamedRegisters.{named-length, named-below}

pub modes : (i : Block) (g : List ℕ) → BlockModes i g
unfolding lowest_address changed_base
modes i g =
    let n : named_below i 16 ≡ count i = named-below i.list in
    let few : count i ≤ 16 = named-length i.list in
    record {
      ia = λ u p word. simp (u, p) (omega arith);
      ib = λ u p word. simp (u, p) (omega arith);
      da = λ u p word some above. simp (u, p) (omega arith);
      db = λ u p word some above. simp (u, p) (omega arith);
      up = λ u above. simp u (omega arith);
      down = λ u word above. simp u (omega arith);
    }
