-- The base register after a transfer, and the register moved, where they may be the same (paper 01, "Single" and "Block").
use Rattle.std.specs.Prelude.{◌≡◌, ℕ, ◌+◌, ◌*◌, ◌^◌, ◌<◌, true, false, ◌≢◌, length, slice_index, slice_index_or}
use Rattle.word.specs.declared.Single.{Single}
use Rattle.word.specs.declared.Block.{Block}
use Rattle.datapath.specs.Counter.{ahead}
use Rattle.memory.specs.Memory.{read_word}
use Rattle.registers.specs.State.{State}
use Rattle.transfer.specs.Single as single
use Rattle.transfer.specs.Block as block
use Rattle.semantics.specs.Effect.{load_effect, store_effect, block_load_effect}

-- registers r after a load and a store at a, and after a block load
abbrev pub after_load : Single → State → ℕ → ℕ
after_load i s r = slice_index (load_effect i s).out.registers r

abbrev pub after_store : Single → State → ℕ → ℕ
after_store i s r = slice_index (store_effect i s).out.registers r

abbrev pub after_block_load : Block → State → ℕ → ℕ
after_block_load i s r = slice_index (block_load_effect i s).out.registers r

abbrev pub changed : Single → State → ℕ
changed i s = single.changed_base i s.registers s.status (ahead s.a 8)

-- a single transfer
pub record SingleBase (i : Single) (s : State) : Type 0 where
  -- a load into the base register wins: the register loaded, whichever it is, has the loaded value
  pub loaded : i.rd < 15 → after_load i s i.rd ≡ single.loaded_value i s.memory (single.address_of i s.registers s.status (ahead s.a 8))
  -- into another register: the changed base is written if P=0 or W=1
  pub post_indexed : i.p ≡ false → i.rd ≢ i.rn → after_load i s i.rn ≡ changed i s
  pub written_back : i.w ≡ true → i.rd ≢ i.rn → after_load i s i.rn ≡ changed i s
  pub kept : i.p ≡ true → i.w ≡ false → i.rd ≢ i.rn → after_load i s i.rn ≡ slice_index s.registers i.rn
  -- a store of the base writes its old value
  pub stored : i.rd ≡ i.rn → (store_effect i s).memory ≡ single.stored_to i s.memory (single.address_of i s.registers s.status (ahead s.a 8)) (slice_index s.registers i.rn)
  pub stored_post_indexed : i.p ≡ false → after_store i s i.rn ≡ changed i s
  pub stored_written_back : i.w ≡ true → after_store i s i.rn ≡ changed i s

-- a block load
pub record BlockBase (i : Block) (s : State) : Type 0 where
  -- a loaded base wins: named k-th in the list, it has the k-th word
  pub loaded : (k : ℕ) → k < block.count i → slice_index_or (block.named i.list) k 16 ≡ i.rn → block.lowest_address i s.registers + 4 * block.count i < 2 ^ 32
      → after_block_load i s i.rn ≡ read_word s.memory (block.lowest_address i s.registers + 4 * k)
  -- not in the list: W writes base plus or minus 4n
  pub written_back : i.w ≡ true → ((k : ℕ) → k < block.count i → slice_index_or (block.named i.list) k 16 ≢ i.rn)
      → after_block_load i s i.rn ≡ block.changed_base i s.registers

-- of the fifteen registers, with a base that is one of them
pub record OwnBase : Type 0 where
  pub single : (i : Single) (s : State) → i.rn < 15 → length s.registers ≡ 15 → SingleBase i s
  pub block : (i : Block) (s : State) → i.rn < 15 → length s.registers ≡ 15 → BlockBase i s
