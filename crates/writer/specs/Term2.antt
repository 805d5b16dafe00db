-- Term 2 on words: reader and writer are inverse to each other.
use Rattle.std.specs.Prelude.{ℕ, ◌^◌, ◌<◌, ◌≡◌}
use Rattle.word.specs.declared.Instruction.{Instruction}
use Rattle.word.specs.Reader.{read_of}
use Rattle.writer.specs.Writer.{write_of}

pub record Term2 : Type 0 where
  -- each of the 2^32 words writes back as it was read
  pub writes_back : (w : ℕ) → w < 2 ^ 32 → write_of (read_of w) ≡ record { number = 0; word = w }
  -- every accepted record has a word of 32 bits and reads back as itself
  pub fits : (i : Instruction) → (write_of i).number ≡ 0 → (write_of i).word < 2 ^ 32
  pub reads_back : (i : Instruction) → (write_of i).number ≡ 0 → read_of (write_of i).word ≡ i
