-- What R15 reads as in data processing (paper 01, "R15 read"), by whole words at 20 with flags 6 and the registers 0.
use Rattle.std.specs.Prelude.{ℕ, ◌≡◌, get_or, replicate}
use Rattle.word.specs.declared.Instruction.{Instruction}
use Rattle.word.specs.Reader.{read_of}
use Rattle.processing.specs.Processing.{processed, reads_at}

-- R0 after an instruction; none but data processing changes it here
abbrev pub r0_after : Instruction → ℕ
r0_after (Instruction.Processing i) = get_or (processed i (replicate 15 0) 6 (reads_at i 0x20)).registers 0 0
r0_after (Instruction.Single i) = 0
r0_after (Instruction.Block i) = 0
r0_after (Instruction.Branch i) = 0
r0_after (Instruction.Multiply i) = 0
r0_after (Instruction.Other word) = 0

abbrev pub leaves : ℕ → ℕ
leaves word = r0_after (read_of word)

pub record R15Reads : Type 0 where
  -- as Rn: A+8 alone. ADD R0, R15, 0
  pub rn : leaves 0xE28F0000 ≡ 0x28
  -- as Rm: flags in 31..28 with A+8. MOV R0, R15
  pub rm : leaves 0xE1A0000F ≡ 0x60000028
  -- as both. ADD R0, R15, R15
  pub both : leaves 0xE08F000F ≡ 0x60000050
  -- with shift by register both say A+12. ADD R0, R15, R1, LSL R2; MOV R0, R15, LSL R2; ADD R0, R15, R15, LSL R2
  pub rn_by_register : leaves 0xE08F0211 ≡ 0x2C
  pub rm_by_register : leaves 0xE1A0021F ≡ 0x6000002C
  pub both_by_register : leaves 0xE08F021F ≡ 0x60000058
