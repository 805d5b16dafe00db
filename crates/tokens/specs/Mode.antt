-- How a case begins.
use Rattle.std.specs.Prelude.{ℕ, zero, suc}
use Rattle.tokens.specs.declared.mode.Mode.{Mode}
use Rattle.tokens.specs.declared.mode.Mode.TheVariants.{Start, Take}

-- 0 starts; any other number takes the record as it is given
abbrev pub mode_of : ℕ → Mode
mode_of zero = Start
mode_of (suc n) = Take
