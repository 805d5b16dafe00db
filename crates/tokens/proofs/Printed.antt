-- A token has room in an empty text. Assumes nothing.
use Rattle.std.proofs.Common.{◌≡◌, ℕ, zero, suc, ◌/◌, [], ◌∷◌, length, refl, arith}
use lib.ListN.{length-append}
use Rattle.text.specs.Text.{hex_digits}
use Rattle.text.specs.Output.{put}
use Rattle.text.proofs.Put.{put-append, put-fits}
use Rattle.tokens.specs.Token.{printed}

length-hex_digits : (k n : ℕ) → length (hex_digits k n) ≡ k
unfolding hex_digits
length-hex_digits zero n = refl
length-hex_digits (suc k) n = simp (length-append, length-hex_digits k (n / 16)) (omega arith)

pub put_printed : (word : ℕ) → put (put [] (32 ∷ [])) (hex_digits 8 word) ≡ printed word
put_printed word = rw (← put-append [] (32 ∷ []) (hex_digits 8 word)) (put-fits [] (printed word) (simp (length-hex_digits 8 word) (omega arith)))
