-- Single transfers (paper 01, "Single"). pc is what R15 reads as, A+8.
use Rattle.std.specs.Prelude.{ℕ, ◌+◌, ◌-◌, ◌*◌, ◌%◌, ◌^◌, Bool, not, ◌||◌, List}
use Rattle.bits.specs.Choice.{pick}
use Rattle.word.specs.declared.Operand.{Operand}
use Rattle.word.specs.declared.Operand.TheVariants.{Constant, ShiftByAmount, ShiftByRegister}
use Rattle.word.specs.declared.Single.{Single}
use Rattle.datapath.specs.Shifter.{by_amount, rotated}
use Rattle.datapath.specs.Alu.{carry_of}
use Rattle.datapath.specs.Counter.{r15_word}
use Rattle.memory.specs.Memory.{Memory, read_word, write_word, read_byte, write_byte}
use Rattle.registers.specs.Registers.{register, put}

-- twelve bits, or Rm shifted. R15 as Rm meets 23, and a single has no shift by register: what they give here is not used
unfoldable pub offset_of : Operand → List ℕ → ℕ → ℕ
offset_of (Constant rotate value) g f = (rotate * 256 + value) % 2 ^ 32
offset_of (ShiftByAmount rm shift amount) g f = (by_amount shift (register g rm 0) amount (carry_of f)).value
offset_of (ShiftByRegister rm shift rs) g f = 0

-- a base plus (up) or minus an offset, modulo 2^32
abbrev pub moved : Bool → ℕ → ℕ → ℕ
moved up base offset = pick up ((base + offset) % 2 ^ 32) ((base + 2 ^ 32 - offset) % 2 ^ 32)

unfoldable pub changed_base : Single → List ℕ → ℕ → ℕ → ℕ
changed_base i g f pc = moved i.u (register g i.rn pc) (offset_of i.offset g f)

-- the changed base, or the base if P = 0
unfoldable pub address_of : Single → List ℕ → ℕ → ℕ → ℕ
address_of i g f pc = pick i.p (changed_base i g f pc) (register g i.rn pc)

-- the changed base is written if P = 0 or W = 1
abbrev pub writes_base : Single → Bool
writes_base i = not i.p || i.w

unfoldable pub with_base : Single → List ℕ → ℕ → List ℕ
with_base i g base = pick (writes_base i) (put g i.rn base) g

-- a byte is zero-extended; a word is rotated right by 8 times the low two address bits
unfoldable pub loaded_value : Single → Memory → ℕ → ℕ
loaded_value i mem address = pick i.b (read_byte mem address) (rotated (read_word mem address) (8 * (address % 4)))

-- register n as it is stored; R15 is stored as the flags with a12, which is A+12
unfoldable pub stored_value : List ℕ → ℕ → ℕ → ℕ → ℕ
stored_value g n f a12 = register g n (r15_word f a12)

unfoldable pub stored_to : Single → Memory → ℕ → ℕ → Memory
stored_to i mem address v = pick i.b (write_byte mem address v) (write_word mem address v)
