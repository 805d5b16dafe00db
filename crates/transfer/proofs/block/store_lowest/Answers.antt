use Rattle.std.proofs.Common.{refl}
use Rattle.transfer.specs.Block.{stores}
use Rattle.transfer.proofs.block.store_lowest.Goals as goal

pub returns-in-Some : goal.returns-in-Some
unfolding stores
returns-in-Some c = rw (c.write_word.ensures, c.stored_value-value.ensures, c.in-Some.ensures.first) refl

pub returns-in_default : goal.returns-in_default
unfolding stores
returns-in_default c = rw c.in_default.ensures.first refl
