-- An instruction of its parts: Rn's value, the operand, the result and the flags, each made by itself.
-- Assumes nothing.
use Prim.Native.Nat.{ℕ}
use mathlib.Core.Path.{◌≡◌, ap, ◌∙◌}
use mathlib.Core.List.{List}
use Rattle.word.specs.declared.Processing.{Processing}
use Rattle.datapath.specs.declared.Shifted.{Shifted}
use Rattle.datapath.specs.declared.Computed.{Computed}
use Rattle.datapath.specs.Shifter.{shifted}
use Rattle.datapath.specs.Alu.{operate, carry_of, overflow_of}
use Rattle.registers.specs.Registers.{Out}
use Rattle.processing.specs.Processing.{operand_of, rn_of, computed_of, computed_by, flags_after, result_stored, stored, processed}

-- what the ALU makes of values at hand
abbrev made : Processing → ℕ → ℕ → Shifted → Computed
made i f rn b = operate i.operation rn b.value b.carry (carry_of f) (overflow_of f)

pub joined : (i : Processing) (g : List ℕ) (f pc : ℕ) {rn value flags : ℕ} {b : Shifted} {x : Out}
    → rn ≡ rn_of i g f pc → b ≡ operand_of i.operand g f pc → value ≡ (made i f rn b).value → flags ≡ flags_after i f (made i f rn b)
    → x ≡ result_stored i g flags value → x ≡ processed i g f pc
unfolding processed stored computed_of
joined i g f pc n o v l e = e ∙ rw (l, v, n, o)

-- the same where the operand's value alone is at hand
pub joined-value : (i : Processing) (g : List ℕ) (f pc : ℕ) {rn b value flags : ℕ} {x : Out}
    → rn ≡ rn_of i g f pc → b ≡ (operand_of i.operand g f pc).value → value ≡ (computed_by i g f pc rn b).value
    → flags ≡ flags_after i f (computed_by i g f pc rn b) → x ≡ result_stored i g flags value → x ≡ processed i g f pc
joined-value i g f pc n o v l e = joined i g f pc n (ap (λ (y : ℕ). shifted y (operand_of i.operand g f pc).carry) o) v l e
