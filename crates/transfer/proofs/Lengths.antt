-- No transfer changes the length of memory, or the number of the registers.
-- Assumes nothing.
use Rattle.std.proofs.Common.{◌≡◌, ℕ, Bool, true, false, ltb, List, [], ◌∷◌, length, set, refl, ◌∙◌, length-set}
use Rattle.bits.specs.Choice.{pick}
use Rattle.word.specs.declared.Single.{Single}
use Rattle.word.specs.declared.Block.{Block}
use Rattle.memory.specs.Memory.{Memory, write_word, write_byte}
use Rattle.memory.proofs.Laws.{write-length, write-byte-length}
use Rattle.registers.specs.Registers.{put}
use Rattle.transfer.specs.Single as Single
use Rattle.transfer.specs.Block as Block

-- of two lists of one length, either
pick-length : (b : Bool) (xs ys : List ℕ) (n : ℕ) → length xs ≡ n → length ys ≡ n → length (pick b xs ys) ≡ n
pick-length true xs ys n hx hy = hx
pick-length false xs ys n hx hy = hy

-- ---- registers

pub put-length : (g : List ℕ) (n v : ℕ) → length (put g n v) ≡ length g
unfolding put
put-length g n v = pick-length (ltb n 15) (set g n v) g (length g) (length-set g n v) refl

pub single-base-length : (i : Single) (g : List ℕ) (base : ℕ) → length (Single.with_base i g base) ≡ length g
unfolding Single.with_base
single-base-length i g base =
    pick-length (Single.writes_base i) (put g i.rn base) g (length g) (put-length g i.rn base) refl

pub block-base-length : (i : Block) (g : List ℕ) (base : ℕ) → length (Block.with_base i g base) ≡ length g
unfolding Block.with_base
block-base-length i g base = pick-length i.w (put g i.rn base) g (length g) (put-length g i.rn base) refl

-- ---- memory: bytes on the board that they were on

pub record Alike (m n : Memory) : Type 0 where
  pub board : m.board ≡ n.board
  pub length : length m.bytes ≡ length n.bytes

pub stored-to-alike : (i : Single) (mem : Memory) (a v : ℕ) → Alike (Single.stored_to i mem a v) mem
unfolding Single.stored_to
stored-to-alike i mem a v = go i.b
  where
    go : (b : Bool) → Alike (pick b (write_byte mem a v) (write_word mem a v)) mem
    go true = record { board = refl; length = write-byte-length mem a v }
    go false = record { board = refl; length = write-length mem a v }

pub written-alike : (mem : Memory) (a v : ℕ) {n : Memory} → Alike n (write_word mem a v) → Alike n mem
written-alike mem a v e = record { board = e.board; length = e.length ∙ write-length mem a v }

pub stores-alike : (xs g : List ℕ) (f a12 a : ℕ) (mem : Memory) → Alike (Block.stores xs g f a12 a mem) mem
unfolding Block.stores
stores-alike [] g f a12 a mem = record { board = refl; length = refl }
stores-alike (x ∷ xs) g f a12 a mem = written-alike mem a _ (stores-alike xs g f a12 (Block.next a) (write_word mem a (Single.stored_value g x f a12)))

pub stores-all-alike : (xs g h : List ℕ) (f a12 a : ℕ) (mem : Memory) → Alike (Block.stores_all xs g h f a12 a mem) mem
unfolding Block.stores_all
stores-all-alike [] g h f a12 a mem = record { board = refl; length = refl }
stores-all-alike (x ∷ xs) g h f a12 a mem = written-alike mem a _ (stores-alike xs h f a12 (Block.next a) (write_word mem a (Single.stored_value g x f a12)))
