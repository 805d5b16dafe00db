-- The loop's invariant: storing what is left from here on is storing the whole list.
-- Assumes nothing.
use Rattle.std.proofs.Common.{◌≡◌, length}
use Rattle.memory.specs.Memory.{memory_of}
use Rattle.transfer.specs.Block.{named, stores}
use Rattle.transfer.proofs.block.store.Given as goal

abbrev pub invariant-loop-n : goal.invariant-loop-n
invariant-loop-n l =
    (stores (named l.n-iterator.0) l.registers l.r15.flags l.r15.pc l.at (memory_of l.board l.memory) ≡ stores (named l.list) l.registers l.r15.flags l.r15.pc l.address (memory_of l.board l.initial.memory))
    × (length l.memory ≡ length l.initial.memory)
