-- The loop's invariant: loading what is left from here on, after what is loaded already, is loading the whole list.
-- Assumes nothing.
use Rattle.std.proofs.Common.{◌≡◌}
use Rattle.memory.specs.Memory.{memory_of}
use Rattle.registers.specs.Registers.{out}
use Rattle.transfer.specs.Block.{named, loads}
use Rattle.transfer.proofs.Moves.{continued}
use Rattle.transfer.proofs.block.load.Given as goal

abbrev pub invariant-loop-n : goal.invariant-loop-n
invariant-loop-n l =
    let mem = memory_of l.board l.memory in
    continued (named l.n-iterator.0) (out l.registers l.outcome.flags l.outcome.goes) l.flags l.at mem
    ≡ loads (named l.list) l.initial.registers l.flags l.address mem
