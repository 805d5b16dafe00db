-- Tables of records: which are bad (11), and what a run refuses with first.
use Rattle.std.specs.Prelude.{ℕ, ◌+◌, ◌*◌, ◌≡◌, true, false, List, [], ◌∷◌, map, Option, Some, None}
use Rattle.steps.specs.declared.Phase.{Phase}
use Rattle.steps.specs.declared.Phase.TheVariants.{Step1, Refill1, Refill2, Later}
use Rattle.steps.specs.Steps.{latches, idle}
use Rattle.cycle.specs.declared.Control.{Control}
use Rattle.semantics.specs.declared.Sums.{Sums}
use Rattle.semantics.specs.Sums.{nsi, no_sums}
use Rattle.cycle.specs.Machine.{machine, pipe, counts}
use Rattle.cycle.specs.CycleTable.{registers}
use Rattle.refusals.specs.Numbers.{bad, refusal}

-- ---- bad records

-- each of the first values in its place makes the record bad, and none of the second
abbrev pub Tells : {A : Type 0} → (A → Control) → List A → List A → Type 0
Tells c bads goods =
    (map (λ x. bad (machine registers (c x) [])) bads ≡ map (λ x. true) bads) × (map (λ x. bad (machine registers (c x) [])) goods ≡ map (λ x. false) goods)

-- before step 1: length, PC, flags, cycles, retired, stop
abbrev pub standing : ℕ → ℕ → ℕ → ℕ → ℕ → ℕ → Control
standing n pc f cycles retired stop = record {
  flags = f;
  pipe = pipe pc None None None;
  phase = Step1;
  latches = idle;
  counts = counts cycles retired no_sums;
  stop = stop;
  board = record { size = n };
}

-- with sums, after 9 cycles
abbrev pub summed : Sums → Control
summed q = record {
  flags = 0;
  pipe = pipe 8 None None None;
  phase = Step1;
  latches = idle;
  counts = counts 9 1 q;
  stop = 0;
  board = record { size = 16 };
}

-- with a word under way, in memory of 16 bytes: IX, phase, address latch, stop
abbrev pub under : Option ℕ → Phase → ℕ → ℕ → Control
under ix ph address stop = record {
  flags = 0;
  pipe = pipe 12 None None ix;
  phase = ph;
  latches = latches address 0 0;
  counts = counts 9 1 no_sums;
  stop = stop;
  board = record { size = 16 };
}

-- words with later steps: a shift by register, a load, a store, blocks of R1, R2 and R8, and MUL R10, R3 by R0, R2 and R5, which hold 0, 3 and 40
abbrev pub shift : Option ℕ
shift = Some 0xE1A01312

-- into R15: MOV R15, R2, LSL R3
abbrev pub shift_counter : Option ℕ
shift_counter = Some 0xE1A0F312

abbrev pub load : Option ℕ
load = Some 0xE5954000

abbrev pub store : Option ℕ
store = Some 0xE5854000

abbrev pub block_load : Option ℕ
block_load = Some 0xE8970106

abbrev pub block_store : Option ℕ
block_store = Some 0xE8870106

abbrev pub multiply_by : ℕ → Option ℕ
multiply_by rs = Some (0xE00A0093 + 256 * rs)

-- words for a refill: a branch, MOV R15, LDR R15, LDMIA of R15, and each on a condition that fails
abbrev pub storing : List (Option ℕ)
storing =
    Some 0xEA000000 ∷ Some 0xE1A0F001 ∷ shift_counter ∷ Some 0xE595F000 ∷ Some 0xE8978000 ∷ Some 0x0A000000 ∷ Some 0x01A0F001 ∷ Some 0x0595F000
    ∷ Some 0x08978000 ∷ []

abbrev pub not_storing : List (Option ℕ)
not_storing =
    Some 0xEF000000 ∷ shift ∷ load ∷ store ∷ Some 0xE585F000 ∷ block_load ∷ Some 0xE8878000 ∷ Some 0xE151F002 ∷ multiply_by 0
    ∷ Some 0xFA000000 ∷ Some 0xF1A0F001 ∷ Some 0xE1A0FF12 ∷ Some 0xE5D5F000 ∷ Some 0xE8D78000 ∷ []

-- the clauses of 11; an Other has one step, so that one that meets 22 in step 2 lacks that step too
pub record BadRecords : Type 0 where
  -- length breaks 1
  pub length : Tells (λ n. standing n 8 0 9 1 0) (12 ∷ 18 ∷ 65540 ∷ []) (16 ∷ 65536 ∷ [])
  -- PC not a multiple of 4 or not below 2^26
  pub counter : Tells (λ pc. standing 16 pc 0 9 1 0) (6 ∷ 0x4000000 ∷ []) (8 ∷ 0x3FFFFFC ∷ [])
  -- flags above 15
  pub flags : Tells (λ f. standing 16 8 f 9 1 0) (16 ∷ []) (15 ∷ [])
  -- cycles above 2^40
  pub cycles : Tells (λ t. standing 16 8 0 t 1 0) (0x10000000001 ∷ []) (0x10000000000 ∷ [])
  -- retired above cycles
  pub retired : Tells (λ k. standing 16 8 0 9 k 0) (10 ∷ []) (9 ∷ [])
  -- the three sums together above cycles
  pub sums : Tells summed (nsi 10 0 0 ∷ nsi 0 10 0 ∷ nsi 0 0 10 ∷ nsi 4 3 3 ∷ []) (nsi 9 0 0 ∷ nsi 0 9 0 ∷ nsi 0 0 9 ∷ nsi 3 3 3 ∷ no_sums ∷ [])
  -- stop not 0 or 21..25
  pub stop : Tells (λ q. standing 16 8 0 9 1 q) (1 ∷ 20 ∷ 26 ∷ []) (0 ∷ 21 ∷ 25 ∷ [])
  -- or held away from step 1
  pub held : Tells (λ ph. under shift_counter ph 0 22) (Refill1 ∷ Refill2 ∷ Later 0 ∷ []) (Step1 ∷ [])
  pub free : Tells (λ ph. under shift_counter ph 0 0) [] (Refill1 ∷ Refill2 ∷ Later 0 ∷ Step1 ∷ [])
  -- step 2 where IX is blank, meets 22, meets 23 (Rs = 15; a byte with Rd = 15; block with S; multiply by R15), or fails its condition
  pub word :
      Tells (λ ix. under ix (Later 0) 0 0) (None ∷ Some 0xEF000000 ∷ Some 0xE1A01F12 ∷ Some 0xE5D5F000 ∷ Some 0xE8D70106 ∷ multiply_by 15 ∷ Some 0x01A01312 ∷ [])
      (shift ∷ load ∷ store ∷ block_load ∷ block_store ∷ multiply_by 0 ∷ [])
  -- a refill of a word that can't store the counter: by its class and fields (an Other; a register loaded, R15 stored; CMP with Rd = 15; multiply); for its
  -- condition is never; for it meets 23 (MOV R15 by R15; a byte into R15; block with S). Of one that can, whatever the flags are now; of none it is the start's
  pub refill_1 : Tells (λ ix. under ix Refill1 0 0) not_storing (None ∷ storing)
  pub refill_2 : Tells (λ ix. under ix Refill2 0 0) not_storing (None ∷ storing)
  -- or lacks that step
  pub one_step : Tells (λ ix. under ix (Later 0) 0 0) (Some 0xE1A01002 ∷ Some 0xEA000000 ∷ []) []
  pub shift_steps : Tells (λ k. under shift (Later k) 0 0) (1 ∷ []) (0 ∷ [])
  pub load_steps : Tells (λ k. under load (Later k) 0 0) (2 ∷ []) (0 ∷ 1 ∷ [])
  pub store_steps : Tells (λ k. under store (Later k) 0 0) (1 ∷ []) (0 ∷ [])
  pub block_load_steps : Tells (λ k. under block_load (Later k) 0 0) (4 ∷ []) (0 ∷ 1 ∷ 2 ∷ 3 ∷ [])
  pub block_store_steps : Tells (λ k. under block_store (Later k) 0 0) (3 ∷ []) (0 ∷ 1 ∷ 2 ∷ [])
  -- a multiply's steps are 1+m by the value that Rs holds
  pub multiply_steps_1 : Tells (λ k. under (multiply_by 0) (Later k) 0 0) (1 ∷ []) (0 ∷ [])
  pub multiply_steps_2 : Tells (λ k. under (multiply_by 2) (Later k) 0 0) (2 ∷ []) (0 ∷ 1 ∷ [])
  pub multiply_steps_4 : Tells (λ k. under (multiply_by 5) (Later k) 0 0) (4 ∷ []) (0 ∷ 1 ∷ 2 ∷ 3 ∷ [])
  -- a word still to be moved outside memory; where none is left, any address
  pub load_outside : Tells (λ a. under load (Later 0) a 0) (16 ∷ []) (15 ∷ [])
  pub load_done : Tells (λ a. under load (Later 1) a 0) [] (16 ∷ [])
  pub store_outside : Tells (λ a. under store (Later 0) a 0) (16 ∷ []) (15 ∷ [])
  pub block_outside : Tells (λ a. under block_load (Later 0) a 0) (8 ∷ []) (4 ∷ [])
  pub later_outside : Tells (λ a. under block_load (Later 1) a 0) (12 ∷ []) (8 ∷ [])
  pub last_outside : Tells (λ a. under block_store (Later 2) a 0) (16 ∷ []) (12 ∷ [])
  pub block_done : Tells (λ a. under block_load (Later 3) a 0) [] (16 ∷ [])
  pub multiply_none : Tells (λ a. under (multiply_by 5) (Later 0) a 0) [] (16 ∷ [])

-- ---- refusals of a run

-- lent so many bytes, with a budget
abbrev pub refused : ℕ → ℕ → Control → ℕ
refused lent budget c = refusal lent budget (machine registers c [])

-- five cycles before 2^40: flags and stop
abbrev pub late : ℕ → ℕ → Control
late f stop = standing 16 8 f 0xFFFFFFFFFB 1 stop

pub record RefusalOrder : Type 0 where
  -- 3 budget above 1,000,000
  pub budget : map (λ n. refused 16 n (standing 16 8 0 9 1 0)) (0 ∷ 1000000 ∷ 1000001 ∷ []) ≡ 0 ∷ 0 ∷ 3 ∷ []
  -- 13 cycles plus budget above 2^40
  pub far : map (λ n. refused 16 n (late 0 0)) (0 ∷ 5 ∷ 6 ∷ []) ≡ 0 ∷ 0 ∷ 13 ∷ []
  -- 12, 11, 3, 13, each before those after it; a stop held hides none of them
  pub order : refused 20 1000001 (late 16 0) ∷ refused 16 1000001 (late 16 0) ∷ refused 16 1000001 (late 0 22) ∷ refused 16 6 (late 0 22) ∷ []
      ≡ 12 ∷ 11 ∷ 3 ∷ 13 ∷ []

pub record Tables : Type 0 where
  pub bad : BadRecords
  pub refusals : RefusalOrder
