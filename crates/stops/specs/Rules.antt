-- The rules of 23, numbered from 1 in the papers' order (paper 01, "Numbers caused by the state", has eight; 02 §1 adds 9 and 10).
use Rattle.std.specs.Prelude.{ℕ, suc, Bool, false, not, ◌&&◌, ◌||◌, List, [], ◌∷◌, leb, eqb}
use Rattle.bits.specs.Choice.{pick}
use Rattle.word.specs.declared.Operand.{Operand}
use Rattle.word.specs.declared.Operand.TheVariants.{Constant, ShiftByAmount, ShiftByRegister}
use Rattle.word.specs.declared.Processing.{Processing}
use Rattle.word.specs.declared.Single.{Single}
use Rattle.word.specs.declared.Block.{Block}
use Rattle.word.specs.declared.Multiply.{Multiply}
use Rattle.word.specs.declared.Instruction.{Instruction}
use Rattle.datapath.specs.Alu.{stores_result}
use Rattle.registers.specs.State.{State}
use Rattle.transfer.specs.Single as single
use Rattle.transfer.specs.Block as block

-- the number of the first broken rule of a list whose first is rule n, or 0
abbrev pub first_broken : ℕ → List Bool → ℕ
first_broken n [] = 0
first_broken n (b ∷ bs) = pick b n (first_broken (suc n) bs)

abbrev pub is15 : ℕ → Bool
is15 n = leb 15 n

abbrev pub rs_is15 : Operand → Bool
rs_is15 (Constant rotate value) = false
rs_is15 (ShiftByAmount rm shift amount) = false
rs_is15 (ShiftByRegister rm shift rs) = is15 rs

abbrev pub rm_is15 : Operand → Bool
rm_is15 (Constant rotate value) = false
rm_is15 (ShiftByAmount rm shift amount) = is15 rm
rm_is15 (ShiftByRegister rm shift rs) = is15 rm

-- 1 Rs=15; 2 TST to CMN without S
abbrev pub processing_rules : Processing → State → List Bool
processing_rules i s = rs_is15 i.operand ∷ (not (stores_result i.operation) && not i.s) ∷ []

-- 3 base 15 and P=0 or W=1; 4 register offset 15; 5 byte with Rd=15
abbrev pub single_rules : Single → List Bool
single_rules i = (is15 i.rn && single.writes_base i) ∷ rm_is15 i.offset ∷ (i.b && is15 i.rd) ∷ []

-- 6 base 15; 7 S=1; 8 no register
abbrev pub block_rules : Block → List Bool
block_rules i = is15 i.rn ∷ i.s ∷ eqb (block.count i) 0 ∷ []

-- 9 Rd=Rm; 10 any of the four fields 15, MUL's unused Rn too
abbrev pub multiply_rules : Multiply → List Bool
multiply_rules i = eqb i.rd i.rm ∷ ((is15 i.rd || is15 i.rn) || (is15 i.rs || is15 i.rm)) ∷ []

-- the first rule of 23 that an instruction breaks in a state, or 0. These ten go by the word alone
unfoldable pub rule_broken : Instruction → State → ℕ
rule_broken (Instruction.Processing i) s = first_broken 1 (processing_rules i s)
rule_broken (Instruction.Single i) s = first_broken 3 (single_rules i)
rule_broken (Instruction.Block i) s = first_broken 6 (block_rules i)
rule_broken (Instruction.Branch i) s = 0
rule_broken (Instruction.Multiply i) s = first_broken 9 (multiply_rules i)
rule_broken (Instruction.Other word) s = 0
