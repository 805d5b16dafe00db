-- Block transfers by where each mode begins and ends, and by the word of each register, proved.
-- Assumes nothing.
use Rattle.std.proofs.Common.{◌≡◌, ℕ, zero, suc, ◌+◌, ◌*◌, ◌%◌, ◌^◌, ◌<◌, ◌≤◌, ◌≢◌, List, length, get_or, sym, refl, ◌∙◌, arith}
use Rattle.word.specs.declared.Block.{Block}
use Rattle.datapath.specs.Counter.{r15_word}
use Rattle.memory.specs.Memory.{Memory, read_word}
use Rattle.registers.specs.Registers.{register}
use Rattle.transfer.specs.Single.{stored_value}
use Rattle.transfer.specs.Block.{named, base_of, changed_base, lowest_address, with_base}
use Rattle.transfer.specs.Modes.{named_below, Inside, Words, new_base, after_store, after_load, BlockStored, BlockLoaded, Blocks}
use Rattle.transfer.proofs.NamedRegisters.{named-below, named-rising}
use Rattle.transfer.proofs.NamedPlaces.{At, named-at, named-absent}
use Rattle.transfer.proofs.Modes.{modes}
use Rattle.transfer.proofs.Written.{base-other, base_same, base-words, stored-lt}
use Rattle.registers.proofs.Written.{register-below}
use Rattle.transfer.proofs.Places.{lowest-at, other_at, all-kept}
use Rattle.transfer.proofs.Arrivals.{loads-kept, loaded_at, loads-flags, goes_on, goes_to}

lowest-aligned : (i : Block) (g : List ℕ) → lowest_address i g % 4 ≡ 0
unfolding lowest_address
lowest-aligned i g = omega arith

register-alike : (g h : List ℕ) (x r15 : ℕ) → get_or h x 0 ≡ get_or g x 0 → register h x r15 ≡ register g x r15
unfolding register
register-alike g h x r15 e = rw e

module _ (i : Block) (g : List ℕ) (r : i.rn < 15) (words : Words g) (mem : Memory) (inside : Inside i g mem) where
  abbrev xs : List ℕ
  xs = named i.list

  abbrev low : ℕ
  low = lowest_address i g

  abbrev h : List ℕ
  h = with_base i g (changed_base i g)

  fits : low + 4 * length xs ≤ length mem.bytes
  fits = omega (arith, inside.0, named-below i.list)

  module _ (f a12 : ℕ) where
    old : (n : ℕ) → stored_value g n f a12 < 2 ^ 32
    old n = stored-lt g f a12 n words

    new : (n : ℕ) → stored_value h n f a12 < 2 ^ 32
    new n = stored-lt h f a12 n (base-words i g r words)

    abbrev after : Memory
    after = after_store i g f a12 mem

    at_first : (x : ℕ) → At x 0 xs → read_word after (low + 4 * 0) ≡ register g x (r15_word f a12)
    unfolding stored_value
    at_first x at =
        let e : low + 4 * 0 ≡ low = omega arith in
        rw (e, ← at.1) (lowest-at g h f a12 old new low mem (lowest-aligned i g) inside.1 xs fits at.0)

    at-later : (k x : ℕ) → At x (suc k) xs → read_word after (low + 4 * suc k) ≡ register h x (r15_word f a12)
    unfolding stored_value
    at-later k x at =
        rw (← at.1) (other_at g h f a12 old new low mem (lowest-aligned i g) inside.1 xs fits k at.0)

    stored_at : (k x : ℕ) → At x k xs → x ≢ i.rn → read_word after (low + 4 * k) ≡ register g x (r15_word f a12)
    stored_at zero x at n = at_first x at
    stored_at (suc k) x at n = at-later k x at ∙ register-alike g h x (r15_word f a12) (base-other i g r words x n)

    base-first : (k : ℕ) → At i.rn k xs → k ≡ 0 → read_word after (low + 4 * k) ≡ base_of i g
    base-first zero at z = at_first i.rn at ∙ register-below g i.rn (r15_word f a12) r ∙ sym (register-below g i.rn 0 r)
    base-first (suc k) at z = absurd (omega arith)

    base-at : (k : ℕ) → At i.rn k xs → k ≢ 0 → read_word after (low + 4 * k) ≡ new_base i g
    base-at zero at n = absurd (n refl)
    base-at (suc k) at n = at-later k i.rn at ∙ register-below h i.rn (r15_word f a12) r ∙ base_same i g r words

    stored : BlockStored i g f a12 mem
    stored = record {
      stored = λ x b e n. stored_at (named_below i x) x (named-at i.list x b e) n;
      base_lowest = λ e z. base-first (named_below i i.rn) (named-at i.list i.rn (omega arith) e) z;
      base_later = λ e n. base-at (named_below i i.rn) (named-at i.list i.rn (omega arith) e) n;
      kept = λ b beside. all-kept g h f a12 old new low mem (lowest-aligned i g) inside.1 xs fits b (rw (named-below i.list) at beside);
    }

  loaded-of : (f k x : ℕ) → At x k xs → x < 15 → get_or (after_load i g f mem).registers x 0 ≡ read_word mem (low + 4 * k)
  loaded-of f k x at b =
      rw (← at.1)
      (loaded_at f mem xs h low 0 k (named-rising i.list) (base-words i g r words).0 at.0 (omega (arith, at.1)) (omega (arith, fits, inside.1)))

  loaded : (f : ℕ) → BlockLoaded i g f mem
  loaded f = record {
    loaded = λ x b e. loaded-of f (named_below i x) x (named-at i.list x (omega arith) e) b;
    base = λ e. loads-kept f mem xs h low i.rn (named-absent i.list i.rn (omega arith) e) ∙ base_same i g r words;
    kept = λ x b e n. loads-kept f mem xs h low x (named-absent i.list x (omega arith) e) ∙ base-other i g r words x n;
    counter = λ e. goes_to f mem xs h low 0 (named_below i 15) (named-rising i.list) (named-at i.list 15 (omega arith) e) (omega (arith, fits, inside.1));
    counter_kept = λ e. goes_on f mem xs h low 0 (named-rising i.list) (named-absent i.list 15 (omega arith) e);
    flags = loads-flags f mem xs h low;
  }

pub blocks : Blocks
blocks = record {
  modes = modes;
  stores = λ i g f a12 mem r words inside. stored i g r words mem inside f a12;
  loads = λ i g f mem r words inside. loaded i g r words mem inside f;
}
