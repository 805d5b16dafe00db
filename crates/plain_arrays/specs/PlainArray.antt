-- A plain machine's record as an array of words, and back. Every array stands for one.
use Rattle.std.specs.Prelude.{ℕ, List, [], ◌∷◌, ◌++◌}
use Rattle.plain.specs.declared.Plain.{Plain}
use Rattle.arrays.specs.Words.{at, registers_of}

-- words 15 to 18
abbrev pub other_words : Plain → List ℕ
other_words p = p.a ∷ p.flags ∷ p.stop ∷ p.board.size ∷ []

unfoldable pub packed : Plain → List ℕ
packed p = registers_of p.registers ++ other_words p

unfoldable pub unpacked : List ℕ → Plain
unpacked words = record {
  registers = registers_of words;
  a = at words 15;
  flags = at words 16;
  stop = at words 17;
  board = record { size = at words 18 };
}
