-- Block loads and stores a register at a time, as a loop over the named registers goes.
-- Assumes nothing.
use Rattle.std.specs.Prelude.{Some, None}
use Rattle.std.proofs.Common.{◌≡◌, ℕ, ◌<◌, List, [], ◌∷◌, Bool, true, false, length, get_or, set, ltb, take, refl, arith}
use mathlib.Core.List.{tail}
use Rattle.memory.specs.Memory.{Memory, read_word, write_word}
use Rattle.bits.specs.Choice.{pick}
use Rattle.registers.specs.Registers.{put, Out, out, arrives}
use Rattle.transfer.specs.Single.{stored_value}
use Rattle.transfer.specs.Block.{next, loads, stores, stores_all}

module _ (g : List ℕ) (f a12 a : ℕ) (mem : Memory) where
  pub stores-none : (xs : List ℕ) → length xs ≡ 0 → stores xs g f a12 a mem ≡ mem
  unfolding stores
  stores-none [] h = refl
  stores-none (x ∷ xs) h = absurd (omega arith)

  -- the lowest alone
  pub stores-lowest : (xs : List ℕ) → 0 < length xs → stores (take 1 xs) g f a12 a mem ≡ write_word mem a (stored_value g (get_or xs 0 16) f a12)
  unfolding stores
  stores-lowest [] h = absurd (omega arith)
  stores-lowest (x ∷ xs) h = refl

  pub stores-all : (h xs : List ℕ) → stores_all xs g h f a12 a mem ≡ stores (tail xs) h f a12 (next a) (stores (take 1 xs) g f a12 a mem)
  unfolding stores_all stores
  stores-all h [] = refl
  stores-all h (x ∷ xs) = refl

-- ---- a register after the other

-- what is left to be loaded, after what is loaded already: where nothing is left, that is all
abbrev pub continued : List ℕ → Out → ℕ → ℕ → Memory → Out
continued [] o f at mem = o
continued (x ∷ xs) o f at mem = loads (x ∷ xs) o.registers f at mem

pub continued-start : (xs g : List ℕ) (f at : ℕ) (mem : Memory) → continued xs (out g f None) f at mem ≡ loads xs g f at mem
unfolding loads
continued-start [] g f at mem = refl
continued-start (x ∷ xs) g f at mem = refl

arrives-put : (g : List ℕ) (f n v : ℕ) → (arrives g f n v).registers ≡ put g n v
unfolding arrives put
arrives-put g f n v = go (ltb n 15)
  where
    go : (b : Bool) → (pick b (out (set g n v) f None) (out g f (Some v))).registers ≡ pick b (set g n v) g
    go true = refl
    go false = refl

-- one of them loaded
pub continued-step : (x : ℕ) (xs : List ℕ) (o : Out) (f at : ℕ) (mem : Memory)
    → continued (x ∷ xs) o f at mem ≡ continued xs (arrives o.registers f x (read_word mem at)) f (next at) mem
unfolding loads
continued-step x [] o f at mem = refl
continued-step x (y ∷ ys) o f at mem = rw arrives-put
