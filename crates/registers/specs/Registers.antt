-- The fifteen registers R0 to R14, and what an instruction leaves in them. R15 is no register here: what it reads as is lent.
use Rattle.std.specs.Prelude.{ℕ, List, ltb, get_or, set, Option, Some, None}
use Rattle.bits.specs.Choice.{pick}

-- register n, or r15 for 15
unfoldable pub register : List ℕ → ℕ → ℕ → ℕ
register g n r15 = pick (ltb n 15) (get_or g n 0) r15

-- register n written; 15 is none of these
unfoldable pub put : List ℕ → ℕ → ℕ → List ℕ
put g n v = pick (ltb n 15) (set g n v) g

-- registers and flags after an instruction, and where the counter goes: on, or to a stored word's bits 25..2
pub record Out : Type 0 where
  pub registers : List ℕ
  pub flags : ℕ
  pub goes : Option ℕ

abbrev pub out : List ℕ → ℕ → Option ℕ → Out
out g f t = record { registers = g; flags = f; goes = t }

-- a result or a loaded word that goes to register n: for 15 it is stored into the counter
unfoldable pub arrives : List ℕ → ℕ → ℕ → ℕ → Out
arrives g f n v = pick (ltb n 15) (out (set g n v) f None) (out g f (Some v))
