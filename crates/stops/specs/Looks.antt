-- How many registers a walk over a block looks at, and which is the last (paper 02 §5), by the bits of the list: a second road to the walk.
use Rattle.std.specs.Prelude.{ℕ, suc, ◌+◌, ◌*◌, ◌%◌, ◌^◌, ◌≤◌, ◌<◌, ◌≡◌, true, [], ◌∷◌, length, replicate}
use Rattle.bits.specs.Bits.{bit}
use Rattle.word.specs.declared.Block.{Block}
use Rattle.word.specs.declared.Instruction.{Instruction}
use Rattle.word.specs.Reader.{read_of}
use Rattle.memory.specs.Memory.{memory_of}
use Rattle.registers.specs.State.{State, state}
use Rattle.transfer.specs.Block as block
use Rattle.stops.specs.Moves.{moved_by, stored_by}
use Rattle.stops.specs.Walk.{Walked, walk_of}
use Rattle.stops.specs.Stops.{moved_stop}

-- how many registers below x a list names
abbrev pub below : ℕ → ℕ → ℕ
below list x = length (block.named (list % 2 ^ x))

-- where a named register goes
abbrev pub place_of : Block → State → ℕ → ℕ
place_of i s x = (block.lowest_address i s.registers + 4 * below i.list x) % 2 ^ 32

abbrev pub Names : Block → ℕ → Type 0
Names i x = (x < 16) × (bit i.list x ≡ true)

-- of a block's walk
pub record Looks (i : Block) (s : State) (w : Walked) : Type 0 where
  -- between 1 and n, where there is a register
  pub some : 1 ≤ block.count i → 1 ≤ w.looked
  pub most : w.looked ≤ block.count i
  -- n where the answer is not 24
  pub all : (w.stop ≡ 24 → ⊥) → w.looked ≡ block.count i
  -- else the register that it ended on is named, is outside, and is the lowest such
  pub last : w.stop ≡ 24
      → (x : ℕ) × Names i x × (suc (below i.list x) ≡ w.looked) × (s.memory.board.size ≤ place_of i s x)
      × ((y : ℕ) → y < x → Names i y → place_of i s y < s.memory.board.size)

-- in a memory of any length allowed
abbrev pub Looking : Type 0
Looking = (i : Block) (s : State) → s.memory.board.size ≤ 65536 → Looks i s (walk_of (Instruction.Block i) s)

-- the stop is what it is by all the addresses at once: 24 if any moved is outside, else 25 if any stored is fetched ahead, else 0
abbrev pub AllAtOnce : Type 0
AllAtOnce = (i : Instruction) (s : State) → (walk_of i s).stop ≡ moved_stop (moved_by i s) (stored_by i s) s.a s.memory.board

-- ---- marked walks, of blocks at 20 with a value in R1 and a memory of some size

abbrev pub walk_at : ℕ → ℕ → ℕ → Walked
walk_at word r1 size = walk_of (read_of word) (state (0 ∷ r1 ∷ replicate 13 0) 0 0x20 (memory_of (record { size = size }) []))

abbrev pub after : ℕ → ℕ → Walked
after stop looked = record { stop = stop; looked = looked }

pub record MarkedWalks : Type 0 where
  -- STMIA R1, {R0,R2,R7,R15}: 28, the fourth, is outside, and 24, the third, is fetched
  pub third_and_fourth : walk_at 0xE8818085 0x1C 0x28 ≡ after 24 4
  pub third : walk_at 0xE8818085 0x1C 0x2C ≡ after 25 4
  pub first : walk_at 0xE8818085 0x28 0x28 ≡ after 24 1
  pub second : walk_at 0xE8818085 0x24 0x28 ≡ after 24 2
  pub none : walk_at 0xE8818085 0x10 0x28 ≡ after 0 4
  -- STMDA R1, {R0,R2,R7,R15} moves the same words
  pub down : walk_at 0xE8018085 0x28 0x28 ≡ after 24 4
  -- STMIA R1, {R14}
  pub one : walk_at 0xE8814000 0x24 0x40 ≡ after 25 1
  pub one_outside : walk_at 0xE8814000 0x40 0x40 ≡ after 24 1
  -- LDMIA R1, of all sixteen
  pub load : walk_at 0xE891FFFF 0x00 0x24 ≡ after 24 10
  pub load_inside : walk_at 0xE891FFFF 0x00 0x40 ≡ after 0 16
  -- LDMIA R1, {R0,R1}, the second past 2^32
  pub past : walk_at 0xE8910003 0xFFFFFFFC 0x40 ≡ after 24 1
  -- LDMIA R1, {}
  pub nobody : walk_at 0xE8910000 0x00 0x40 ≡ after 0 0
