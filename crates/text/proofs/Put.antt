-- Pieces put one after the other are one piece, and with room for it it is put whole. Assumes nothing.
use mathlib.Core.Path.{◌≡◌, refl, sym}
use mathlib.Core.List.{List, [], ◌∷◌, ◌++◌}
use Prim.Native.Nat.{ℕ, ◌+◌, ◌≤◌, ◌<◌}
use native.Mathlib.Omega.{arith}
use borrow.Author.Tests.{lt-ltb, le-ltb}
use lib.ListN.{length, length-append, length-take}
use Rattle.std.proofs.lemmas.List.{append-nil, append_assoc}
use Rattle.std.proofs.lemmas.Grind.{take_at_read, take-set_at}
use Rattle.text.specs.Output.{put_byte, put}

pub put_byte-room : (text : List ℕ) (byte : ℕ) → length text < 512 → put_byte text byte ≡ text ++ byte ∷ []
unfolding put_byte
put_byte-room text byte h = simp (lt-ltb _ _ h)

pub put_byte-full : (text : List ℕ) (byte : ℕ) → 512 ≤ length text → put_byte text byte ≡ text
unfolding put_byte
put_byte-full text byte h = simp (le-ltb _ _ h)

pub put-nil : (text : List ℕ) → put text [] ≡ text
unfolding put
put-nil text = refl

pub put-one : (text : List ℕ) (byte : ℕ) → put text (byte ∷ []) ≡ put_byte text byte
unfolding put
put-one text byte = refl

pub put-append : (text p q : List ℕ) → put text (p ++ q) ≡ put (put text p) q
unfolding put
put-append text [] q = refl
put-append text (byte ∷ p) q = put-append (put_byte text byte) p q

pub put-push : (text piece : List ℕ) (byte : ℕ) → put text (piece ++ byte ∷ []) ≡ put_byte (put text piece) byte
unfolding put
put-push text piece byte = put-append text piece (byte ∷ [])

pub put-fits : (text piece : List ℕ) → length text + length piece ≤ 512 → put text piece ≡ text ++ piece
unfolding put
put-fits text [] h = sym (append-nil text)
put-fits text (byte ∷ piece) h =
    rw (put_byte-room text byte (omega arith), ← append_assoc text (byte ∷ []) piece) (put-fits (text ++ byte ∷ []) piece (simp length-append (omega arith)))

-- a write into the buffer, by what it holds
pub ruleset stores = (put_byte-room, put_byte-full, length-take, take-set_at)

-- one call after another
pub ruleset puts = (put-nil, put-one, put-push, put-append, take_at_read)
