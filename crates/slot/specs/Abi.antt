-- The number of the calls and of the arrays' layouts. It rises where an array grows, a place moves or a call changes; compare/header holds it to
-- the header, and both to the layout that compare/abi.txt keeps for it.
use Rattle.std.specs.Prelude.{ℕ}

abbrev pub abi : ℕ
abi = 2
