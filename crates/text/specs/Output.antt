-- A text of at most 512 bytes: what it holds once more is put after it.
use Rattle.std.specs.Prelude.{ℕ, List, [], ◌∷◌, ◌++◌, ltb, length}
use Rattle.bits.specs.Choice.{pick}

-- a byte after the text; nothing once there are 512
unfoldable pub put_byte : List ℕ → ℕ → List ℕ
put_byte text byte = pick (ltb (length text) 512) (text ++ byte ∷ []) text

-- a piece after the text, as far as there is room
unfoldable pub put : List ℕ → List ℕ → List ℕ
put text [] = text
put text (byte ∷ piece) = put (put_byte text byte) piece
