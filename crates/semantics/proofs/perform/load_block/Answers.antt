use Rattle.std.proofs.Common.{arith}
use Rattle.semantics.proofs.Durations.{block-short}
use Rattle.semantics.proofs.Results.{whole, block-load-done}
use Rattle.transfer.proofs.NamedRegisters.{named-length}
use Rattle.semantics.proofs.Tallies.{raised-room, block-load-raised, block-load-counts}
use Rattle.semantics.proofs.perform.load_block.Goals as goal

pub done-requires : goal.done-requires
done-requires c =
    let room = raised-room c.raise.ensures c.requires.0 c.requires.1 (omega arith) (rw (c.from.ensures, c.count.ensures) (named-length c.args.i.list)) in
    (rw c.block_steps-steps.ensures (block-short c.args.i), room.0, room.1)

pub returns : goal.returns
returns c = record {
  told =
      rw (← c.block_steps-steps.ensures)
      (block-load-done _ _ _ c.lowest_address-lowest.ensures c.changed_base-base.ensures c.done.ensures.told (whole c.base_then_registers-left.ensures));
  tally = block-load-counts _ _ _ c.lowest_address-lowest.ensures c.changed_base-base.ensures c.done.ensures.tally (block-load-raised _ _ (rw (c.from.ensures, c.count.ensures) at c.raise.ensures)) c.base_then_registers-left.ensures.goes;
}
