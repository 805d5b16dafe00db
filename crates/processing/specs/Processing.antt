-- Data processing (paper 01, "Operations 0-15" and "R15 read"). pc is what R15 reads as: A+8, and A+12 with shift by register.
use Rattle.std.specs.Prelude.{ℕ, Bool, true, false, List, ltb, None}
use Rattle.bits.specs.Choice.{pick}
use Rattle.bits.specs.Bits.{field}
use Rattle.word.specs.declared.Operand.{Operand}
use Rattle.word.specs.declared.Operand.TheVariants.{Constant, ShiftByAmount, ShiftByRegister}
use Rattle.word.specs.declared.Processing.{Processing}
use Rattle.datapath.specs.Shifter.{constant, by_amount, by_register}
use Rattle.datapath.specs.Alu.{operate, stores_result, flags_of, carry_of, overflow_of}
use Rattle.datapath.specs.Counter.{ahead, r15_word}
use Rattle.datapath.specs.declared.Shifted.{Shifted}
use Rattle.datapath.specs.declared.Computed.{Computed}
use Rattle.registers.specs.Registers.{register, Out, out, arrives}

-- the operand and the shifter's carry; R15 as Rm reads as the flags with pc
unfoldable pub operand_of : Operand → List ℕ → ℕ → ℕ → Shifted
operand_of (Constant rotate value) g f pc = constant rotate value (carry_of f)
operand_of (ShiftByAmount rm shift amount) g f pc = by_amount shift (register g rm (r15_word f pc)) amount (carry_of f)
operand_of (ShiftByRegister rm shift rs) g f pc =
    by_register shift (register g rm (r15_word f pc)) (register g rs (r15_word f pc)) (carry_of f)

-- Rn's value; R15 as Rn reads as pc alone
abbrev pub rn_of : Processing → List ℕ → ℕ → ℕ → ℕ
rn_of i g f pc = register g i.rn pc

-- what the ALU makes of Rn and the operand
unfoldable pub computed_of : Processing → List ℕ → ℕ → ℕ → Shifted → Computed
computed_of i g f pc b =
    operate i.operation (rn_of i g f pc) b.value b.carry (carry_of f) (overflow_of f)

-- the same of values at hand: Rn's and the operand's
abbrev pub computed_by : Processing → List ℕ → ℕ → ℕ → ℕ → ℕ → Computed
computed_by i g f pc rn b = operate i.operation rn b (operand_of i.operand g f pc).carry (carry_of f) (overflow_of f)

-- the flags with S; with Rd = 15 they are result bits 31..28
unfoldable pub flags_after : Processing → ℕ → Computed → ℕ
flags_after i f r = pick i.s (pick (ltb i.rd 15) (flags_of r) (field r.value 28 4)) f

-- TST to CMN store no result
abbrev pub result_stored : Processing → List ℕ → ℕ → ℕ → Out
result_stored i g f value = pick (stores_result i.operation) (arrives g f i.rd value) (out g f None)

unfoldable pub stored : Processing → List ℕ → ℕ → Computed → Out
stored i g f r = result_stored i g (flags_after i f r) r.value

unfoldable pub processed : Processing → List ℕ → ℕ → ℕ → Out
processed i g f pc = stored i g f (computed_of i g f pc (operand_of i.operand g f pc))

abbrev pub by_register? : Operand → Bool
by_register? (Constant rotate value) = false
by_register? (ShiftByAmount rm shift amount) = false
by_register? (ShiftByRegister rm shift rs) = true

-- what R15 reads as in an instruction at a
abbrev pub reads_at : Processing → ℕ → ℕ
reads_at i a = pick (by_register? i.operand) (ahead a 12) (ahead a 8)
