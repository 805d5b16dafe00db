-- Block transfers (paper 01, "Block").
use Rattle.std.specs.Prelude.{ℕ, zero, suc, ◌+◌, ◌*◌, ◌/◌, ◌%◌, ◌^◌, Bool, List, [], ◌∷◌, length, None}
use Rattle.bits.specs.Choice.{pick}
use Rattle.bits.specs.Bits.{bit}
use Rattle.word.specs.declared.Block.{Block}
use Rattle.memory.specs.Bytes.{word_base}
use Rattle.memory.specs.Memory.{Memory, read_word, write_word}
use Rattle.registers.specs.Registers.{register, put, Out, out, arrives}
use Rattle.transfer.specs.Single.{moved, stored_value}

-- the registers that the k lowest bits of a list name, from register n on, lowest first
unfoldable pub named_from : ℕ → ℕ → ℕ → List ℕ
named_from zero n list = []
named_from (suc k) n list =
    pick (bit list 0) (n ∷ named_from k (suc n) (list / 2)) (named_from k (suc n) (list / 2))

unfoldable pub named : ℕ → List ℕ
named list = named_from 16 0 list

-- the list that names these registers, a bit for each
unfoldable pub list_of : List ℕ → ℕ
list_of [] = 0
list_of (x ∷ xs) = 2 ^ x + list_of xs

-- n of the paper, the count of the named registers
abbrev pub count : Block → ℕ
count i = length (named i.list)

-- the base, which is never R15 in an instruction that is done
abbrev pub base_of : Block → List ℕ → ℕ
base_of i g = register g i.rn 0

-- base plus or minus 4n; only W writes it
unfoldable pub changed_base : Block → List ℕ → ℕ
changed_base i g = moved i.u (base_of i g) (4 * count i)

-- how far above the base, or the changed base if U=0, the words begin: U=1: base, P=1 base+4; U=0: base-4n+4, P=1 base-4n
abbrev pub above : Bool → Bool → ℕ
above u p = pick u (pick p 4 0) (pick p 0 4)

-- the lowest address, low two bits cleared
unfoldable pub lowest_address : Block → List ℕ → ℕ
lowest_address i g = word_base ((pick i.u (base_of i g) (changed_base i g) + above i.u i.p) % 2 ^ 32)

unfoldable pub with_base : Block → List ℕ → ℕ → List ℕ
with_base i g base = pick i.w (put g i.rn base) g

-- the address of the next word
abbrev pub next : ℕ → ℕ
next address = (address + 4) % 2 ^ 32

-- the named registers loaded from an address on; R15, the last if named, goes to the counter. A loaded base wins
unfoldable pub loads : List ℕ → List ℕ → ℕ → ℕ → Memory → Out
loads [] g f address mem = out g f None
loads (x ∷ []) g f address mem = arrives g f x (read_word mem address)
loads (x ∷ (y ∷ ys)) g f address mem = loads (y ∷ ys) (put g x (read_word mem address)) f (next address) mem

-- the named registers stored from an address on
unfoldable pub stores : List ℕ → List ℕ → ℕ → ℕ → ℕ → Memory → Memory
stores [] g f a12 address mem = mem
stores (x ∷ xs) g f a12 address mem = stores xs g f a12 (next address) (write_word mem address (stored_value g x f a12))

-- the lowest is stored from the old registers g, the others from those with the changed base, h
unfoldable pub stores_all : List ℕ → List ℕ → List ℕ → ℕ → ℕ → ℕ → Memory → Memory
stores_all [] g h f a12 address mem = mem
stores_all (x ∷ xs) g h f a12 address mem = stores xs h f a12 (next address) (write_word mem address (stored_value g x f a12))
