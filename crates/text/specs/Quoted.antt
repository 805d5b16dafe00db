-- A quoted text as bytes, for texts that stand in a definition; all of these are ASCII.
use Rattle.std.specs.Prelude.{ℕ, List}
use Prim.Native.Char.{code}
use Prim.Native.String.{String, [], ◌∷◌}
use mathlib.Core.List as list

abbrev pub bytes : String → List ℕ
bytes [] = list.[]
bytes (c ∷ text) = list.◌∷◌ (code c) (bytes text)
