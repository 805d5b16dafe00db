-- Branches (paper 01, "Branch" and "R15 read").
use Rattle.std.specs.Prelude.{ℕ, ◌+◌, ◌*◌, ◌%◌, ◌^◌, List, Some}
use Rattle.bits.specs.Choice.{pick}
use Rattle.word.specs.declared.Branch.{Branch}
use Rattle.datapath.specs.Counter.{ahead, r15_word}
use Rattle.registers.specs.Registers.{put, Out, out}

-- to A+8+4×offset: of 24 bits times 4, modulo 2^26, the sign is no matter
abbrev pub target : Branch → ℕ → ℕ
target i a = (ahead a 8 + i.offset * 4) % 2 ^ 32

-- the link, R14, is the flags with A+4
abbrev pub linked : Branch → List ℕ → ℕ → ℕ → List ℕ
linked i g f a = pick i.link (put g 14 (r15_word f (ahead a 4))) g

unfoldable pub branched : Branch → List ℕ → ℕ → ℕ → Out
branched i g f a = out (linked i g f a) f (Some (target i a))
