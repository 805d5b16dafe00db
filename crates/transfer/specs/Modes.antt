-- Block transfers by where each mode begins and ends, and by the word of each register (paper 01, "Block").
use Rattle.std.specs.Prelude.{◌≡◌, ℕ, ◌+◌, ◌-◌, ◌*◌, ◌/◌, ◌%◌, ◌^◌, ◌<◌, ◌≤◌, true, false, ◌≢◌, ◌⊎◌, List, length, count_ones, slice_index, Some, None}
use Rattle.bits.specs.Choice.{pick}
use Rattle.bits.specs.Bits.{bit}
use Rattle.word.specs.declared.Block.{Block}
use Rattle.datapath.specs.Counter.{r15_word}
use Rattle.memory.specs.Bytes.{word_base}
use Rattle.memory.specs.Memory.{Memory, read_word}
use Rattle.registers.specs.Registers.{register, Out}
use Rattle.transfer.specs.Block.{named, base_of, changed_base, lowest_address, with_base, loads, stores_all}

-- how many registers below x are named, a count of set bits; below 16 they are all n
abbrev pub named_below : Block → ℕ → ℕ
named_below i x = count_ones (i.list % 2 ^ x)

-- the last word is 4(n-1) above the first
abbrev pub last_address : Block → List ℕ → ℕ
last_address i g = lowest_address i g + 4 * (named_below i 16 - 1)

-- the word of register x: the named registers go lowest number to lowest address
abbrev pub place_of : Block → List ℕ → ℕ → ℕ
place_of i g x = lowest_address i g + 4 * named_below i x

-- the modes, where no address wraps
pub record BlockModes (i : Block) (g : List ℕ) : Type 0 where
  -- IA: from base
  pub ia : i.u ≡ true → i.p ≡ false → base_of i g < 2 ^ 32 → lowest_address i g ≡ word_base (base_of i g)
  -- IB: from base+4
  pub ib : i.u ≡ true → i.p ≡ true → base_of i g + 4 < 2 ^ 32 → lowest_address i g ≡ word_base (base_of i g + 4)
  -- DA: up to base
  pub da : i.u ≡ false → i.p ≡ false → base_of i g < 2 ^ 32 → 1 ≤ named_below i 16 → 4 * (named_below i 16 - 1) ≤ base_of i g
      → last_address i g ≡ word_base (base_of i g)
  -- DB: up to base-4
  pub db : i.u ≡ false → i.p ≡ true → base_of i g < 2 ^ 32 → 1 ≤ named_below i 16 → 4 * named_below i 16 ≤ base_of i g
      → last_address i g ≡ word_base (base_of i g - 4)
  -- the changed base is base plus or minus 4n
  pub up : i.u ≡ true → base_of i g + 4 * named_below i 16 < 2 ^ 32 → changed_base i g ≡ base_of i g + 4 * named_below i 16
  pub down : i.u ≡ false → base_of i g < 2 ^ 32 → 4 * named_below i 16 ≤ base_of i g → changed_base i g + 4 * named_below i 16 ≡ base_of i g

-- ---- what is moved, where all of the block is inside memory

abbrev pub Inside : Block → List ℕ → Memory → Type 0
Inside i g mem = (lowest_address i g + 4 * named_below i 16 ≤ length mem.bytes) × (length mem.bytes < 2 ^ 32)

-- fifteen registers of 32 bits
abbrev pub Words : List ℕ → Type 0
Words g = (length g ≡ 15) × ((x : ℕ) → slice_index g x < 2 ^ 32)

-- the base register afterwards: only W writes it
abbrev pub new_base : Block → List ℕ → ℕ
new_base i g = pick i.w (changed_base i g) (base_of i g)

abbrev pub after_store : Block → List ℕ → ℕ → ℕ → Memory → Memory
after_store i g f a12 mem = stores_all (named i.list) g (with_base i g (changed_base i g)) f a12 (lowest_address i g) mem

-- memory after a store
pub record BlockStored (i : Block) (g : List ℕ) (f a12 : ℕ) (mem : Memory) : Type 0 where
  -- each named register is at its own word, R15 as the flags with A+12
  pub stored : (x : ℕ) → x < 16 → bit i.list x ≡ true → x ≢ i.rn
      → read_word (after_store i g f a12 mem) (place_of i g x) ≡ register g x (r15_word f a12)
  -- a stored base is old if lowest in the list
  pub base_lowest : bit i.list i.rn ≡ true → named_below i i.rn ≡ 0
      → read_word (after_store i g f a12 mem) (place_of i g i.rn) ≡ base_of i g
  -- else (with W) the new one
  pub base_later : bit i.list i.rn ≡ true → named_below i i.rn ≢ 0
      → read_word (after_store i g f a12 mem) (place_of i g i.rn) ≡ new_base i g
  -- a word before the first or after the last is kept
  pub kept : (b : ℕ) → (b / 4 < lowest_address i g / 4) ⊎ (lowest_address i g / 4 + named_below i 16 ≤ b / 4)
      → read_word (after_store i g f a12 mem) b ≡ read_word mem b

abbrev pub after_load : Block → List ℕ → ℕ → Memory → Out
after_load i g f mem = loads (named i.list) (with_base i g (changed_base i g)) f (lowest_address i g) mem

-- registers, flags and counter after a load
pub record BlockLoaded (i : Block) (g : List ℕ) (f : ℕ) (mem : Memory) : Type 0 where
  -- each named register is from its own word: a loaded base wins
  pub loaded : (x : ℕ) → x < 15 → bit i.list x ≡ true → slice_index (after_load i g f mem).registers x ≡ read_word mem (place_of i g x)
  -- a base that is not loaded
  pub base : bit i.list i.rn ≡ false → slice_index (after_load i g f mem).registers i.rn ≡ new_base i g
  -- the other registers are kept
  pub kept : (x : ℕ) → x < 15 → bit i.list x ≡ false → x ≢ i.rn → slice_index (after_load i g f mem).registers x ≡ slice_index g x
  -- a load to R15 sets the counter and keeps the flags
  pub counter : bit i.list 15 ≡ true → (after_load i g f mem).goes ≡ Some (read_word mem (place_of i g 15))
  pub counter_kept : bit i.list 15 ≡ false → (after_load i g f mem).goes ≡ None
  pub flags : (after_load i g f mem).flags ≡ f

-- of every block: what is moved, with a base that is not R15
pub record Blocks : Type 0 where
  pub modes : (i : Block) (g : List ℕ) → BlockModes i g
  pub stores : (i : Block) (g : List ℕ) (f a12 : ℕ) (mem : Memory) → i.rn < 15 → Words g → Inside i g mem → BlockStored i g f a12 mem
  pub loads : (i : Block) (g : List ℕ) (f : ℕ) (mem : Memory) → i.rn < 15 → Words g → Inside i g mem → BlockLoaded i g f mem
