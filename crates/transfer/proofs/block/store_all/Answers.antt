use Rattle.std.proofs.Common.{sym, ◌∙◌}
use Rattle.transfer.proofs.Moves.{stores-all}
use Rattle.transfer.proofs.block.store_all.Goals as goal

pub returns : goal.returns
returns c =
    record {
      registers_after = c.write_base.ensures ∙ rw c.changed_base-base.ensures;
      memory_after = c.store.ensures
          ∙ rw (
            c.rest-others.ensures.result_value,
            c.next-after.ensures,
            c.write_base.ensures,
            c.changed_base-base.ensures,
            c.store_lowest.ensures,
            c.lowest_address-address.ensures,
          )
          (sym (stores-all _ _ _ _ _ _ _));
    }
