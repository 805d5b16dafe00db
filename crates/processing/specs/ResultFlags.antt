-- The flags that data processing leaves, said by the result where it arrives: the word stored into the counter, or the register.
use Rattle.std.specs.Prelude.{ℕ, ◌/◌, ◌%◌, ◌^◌, ◌<◌, ◌≡◌, true, false, List, eqb, length, get_or, Some, None}
use Rattle.bits.specs.Bits.{num}
use Rattle.word.specs.declared.Processing.{Processing}
use Rattle.datapath.specs.Alu.{stores_result}
use Rattle.registers.specs.Registers.{out}
use Rattle.processing.specs.Processing.{processed}

-- an instruction with another operation
abbrev pub by : ℕ → Processing → Processing
by op i = record { condition = i.condition; operation = op; s = i.s; rn = i.rn; rd = i.rd; operand = i.operand }

pub record ResultFlags : Type 0 where
  -- without S the flags are kept
  pub kept : (i : Processing) (g : List ℕ) (f pc : ℕ) → i.s ≡ false → (processed i g f pc).flags ≡ f
  -- Rd=15 stores into the counter; with S the flags are result bits 31..28
  pub counter : (i : Processing) (g : List ℕ) (f pc word : ℕ) → i.s ≡ true → (processed i g f pc).goes ≡ Some word → word < 2 ^ 32
      → (processed i g f pc).flags ≡ word / 2 ^ 28
  -- else N is bit 31 of the result
  pub sign : (i : Processing) (g : List ℕ) (f pc : ℕ) → i.s ≡ true → i.rd < 15 → length g ≡ 15 → stores_result i.operation ≡ true
      → get_or (processed i g f pc).registers i.rd 0 < 2 ^ 32
      → (processed i g f pc).flags / 8 ≡ get_or (processed i g f pc).registers i.rd 0 / 2 ^ 31
  -- and Z is 1 where it is 0
  pub zero : (i : Processing) (g : List ℕ) (f pc : ℕ) → i.s ≡ true → i.rd < 15 → length g ≡ 15 → stores_result i.operation ≡ true
      → (processed i g f pc).flags / 4 % 2 ≡ num (eqb (get_or (processed i g f pc).registers i.rd 0) 0)
  -- TST to CMN store no result and leave the counter; their flags are those of AND, EOR, SUB and ADD, with Rd=15 too
  pub tst : (i : Processing) (g : List ℕ) (f pc : ℕ) → processed (by 8 i) g f pc ≡ out g (processed (by 0 i) g f pc).flags None
  pub teq : (i : Processing) (g : List ℕ) (f pc : ℕ) → processed (by 9 i) g f pc ≡ out g (processed (by 1 i) g f pc).flags None
  pub cmp : (i : Processing) (g : List ℕ) (f pc : ℕ) → processed (by 10 i) g f pc ≡ out g (processed (by 2 i) g f pc).flags None
  pub cmn : (i : Processing) (g : List ℕ) (f pc : ℕ) → processed (by 11 i) g f pc ≡ out g (processed (by 4 i) g f pc).flags None
