-- A record of another type is unsound. Assumes nothing.
use Rattle.std.proofs.Common.{rules, refl}
use Rattle.intel_hex.proofs.Heads.{unsound-other, read-unsound}
use Rattle.intel_hex.proofs.records.typed.Goals as goal

pub returns-in_default : goal.returns-in_default
returns-in_default c k later = read-unsound k _ _ _ later _ (unsound-other c.args.h _ (search rules) (search rules) (search rules)) refl
