-- Fields put one behind the other into a word of 32 bits.
use Rattle.std.specs.Prelude.{ℕ, ◌+◌, ◌-◌, ◌*◌, ◌^◌, Bool, true, false, ◌&&◌, List, [], ◌∷◌, Result, Ok, Err, ltb}
use Rattle.writer.specs.declared.NoWord.{NoWord}

-- what is written where a test allows it, else a refusal
abbrev pub allow : Bool → Result ℕ NoWord → Result ℕ NoWord
allow true m = m
allow false m = Err (record {})

-- a field of k bits behind what is written: refused where the value is too wide for it, or the word has no room left
unfoldable pub put : Result ℕ NoWord → ℕ → ℕ → Result ℕ NoWord
put (Err e) k v = Err e
put (Ok w) k v = allow (ltb v (2 ^ k)) (allow (ltb w (2 ^ (32 - k))) (Ok (w * 2 ^ k + v)))

pub record Field : Type 0 where
  pub width : ℕ
  pub value : ℕ

-- a value in a field of k bits, with the lower fields behind it
infixr 6 ◌⟨◌⟩◌
abbrev pub ◌⟨◌⟩◌ : ℕ → ℕ → List Field → List Field
v ⟨ k ⟩ fs = record { width = k; value = v } ∷ fs

-- the fields put from the highest to the lowest
abbrev pub packed : Result ℕ NoWord → List Field → Result ℕ NoWord
packed m [] = m
packed m (f ∷ fs) = packed (put m f.width f.value) fs

-- the code has a field as its value and its width
abbrev pub field_of : ℕ × ℕ → Field
field_of f = record { width = f.1; value = f.0 }

-- of 1 to 31 bits
abbrev pub is_narrow : ℕ × ℕ → Bool
is_narrow f = ltb 0 f.1 && ltb f.1 32
