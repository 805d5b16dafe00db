-- The cycles of an instruction by kind: non-sequential (N), sequential (S) and internal (I) (paper 02, §3). They are added where it retires.
use Rattle.std.specs.Prelude.{◌≡◌, ℕ, ◌+◌, ◌-◌, ◌*◌, List, ◌==◌, Option}
use Rattle.bits.specs.Choice.{pick}
use Rattle.word.specs.declared.Processing.{Processing}
use Rattle.word.specs.declared.Single.{Single}
use Rattle.word.specs.declared.Block.{Block}
use Rattle.word.specs.declared.Instruction.{Instruction}
use Rattle.registers.specs.State.{State}
use Rattle.processing.specs.Processing.{by_register?}
use Rattle.multiply.specs.Multiply.{rs_of}
use Rattle.multiply.specs.InternalCycles.{m_of}
use Rattle.transfer.specs.Block.{count}
use Rattle.stops.specs.Stops.{Due, no_word_there, skipped, executes, due, stop_of}
use Rattle.semantics.specs.declared.Sums.{Sums}
use Rattle.semantics.specs.Duration.{stores_counter}
use Rattle.semantics.specs.Perform.{performs}

-- nN + sS + iI
abbrev pub nsi : ℕ → ℕ → ℕ → Sums
nsi n s i = record { n = n; s = s; i = i }

abbrev pub no_sums : Sums
no_sums = nsi 0 0 0

abbrev pub plus : Sums → Sums → Sums
plus x y = nsi (x.n + y.n) (x.s + y.s) (x.i + y.i)

-- N+S+I: the cycles
abbrev pub total : Sums → ℕ
total x = x.n + x.s + x.i

-- 2N+S+I: the ticks of the slot memory (the paper's term), which takes two for a non-sequential access
abbrev pub ticks : Sums → ℕ
ticks x = 2 * x.n + x.s + x.i

-- ---- the paper's table

-- failed condition S
abbrev pub skipped_sums : Sums
skipped_sums = nsi 0 1 0

-- processing S
abbrev pub processed_sums : Sums
processed_sums = nsi 0 1 0

-- with shift by register S+I
abbrev pub shifted_sums : Sums
shifted_sums = nsi 0 1 1

-- load S+N+I
abbrev pub load_sums : Sums
load_sums = nsi 1 1 1

-- store 2N
abbrev pub store_sums : Sums
store_sums = nsi 2 0 0

-- block load nS+N+I
abbrev pub block_load_sums : ℕ → Sums
block_load_sums n = nsi 1 n 1

-- block store (n-1)S+2N
abbrev pub block_store_sums : ℕ → Sums
block_store_sums n = nsi 2 (n - 1) 0

-- branch 2S+N
abbrev pub branch_sums : Sums
branch_sums = nsi 1 2 0

-- multiply S+mI
abbrev pub multiply_sums : ℕ → Sums
multiply_sums m = nsi 0 1 m

-- any other stored counter S+N more
abbrev pub refill_sums : Sums
refill_sums = nsi 1 1 0

-- start S+N, counted when its refill ends
abbrev pub start_sums : Sums
start_sums = nsi 1 1 0

-- ---- of an instruction

abbrev pub processing_sums : Processing → Sums
processing_sums i = pick (by_register? i.operand) shifted_sums processed_sums

abbrev pub single_sums : Single → Sums
single_sums i = pick i.l load_sums store_sums

abbrev pub block_sums : Block → Sums
block_sums i = pick i.l (block_load_sums (count i)) (block_store_sums (count i))

abbrev pub with_counter : Instruction → Sums → Sums
with_counter i own = pick (stores_counter i) (plus own refill_sums) own

-- of one that is executed; m is a multiply's. An Other, which is never done, has one step
unfoldable pub sums_of : Instruction → ℕ → Sums
sums_of (Instruction.Processing i) m = with_counter (Instruction.Processing i) (processing_sums i)
sums_of (Instruction.Single i) m = with_counter (Instruction.Single i) (single_sums i)
sums_of (Instruction.Block i) m = with_counter (Instruction.Block i) (block_sums i)
sums_of (Instruction.Branch i) m = branch_sums
sums_of (Instruction.Multiply i) m = multiply_sums m
sums_of (Instruction.Other word) m = processed_sums

-- ---- in a state

-- m goes by Rs as it stands before the instruction, which may write it
abbrev pub m_in : Instruction → List ℕ → ℕ
m_in (Instruction.Processing i) g = 0
m_in (Instruction.Single i) g = 0
m_in (Instruction.Block i) g = 0
m_in (Instruction.Branch i) g = 0
m_in (Instruction.Multiply i) g = m_of (rs_of i g)
m_in (Instruction.Other word) g = 0

-- of an instruction whose condition passes: a stop adds nothing
unfoldable pub executed_sums : Instruction → State → Sums
executed_sums i s = pick (stop_of i s == 0) (sums_of i (m_in i s.registers)) no_sums

abbrev pub sums_due : Due → State → Sums
sums_due no_word_there s = no_sums
sums_due skipped s = skipped_sums
sums_due (executes i) s = executed_sums i s

-- of what is fetched
unfoldable pub performs_sums : Option ℕ → State → Sums
performs_sums x s = sums_due (due x s.status) s

-- N+S+I of an instruction is its duration; a stop takes and adds nothing
abbrev pub SumsLast : Type 0
SumsLast = (x : Option ℕ) (s : State) → total (performs_sums x s) ≡ (performs x s).performed.cycles
