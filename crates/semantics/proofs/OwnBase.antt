-- The base register after a transfer.
-- Assumes nothing.
use Rattle.std.specs.Prelude.{Some, None}
use Rattle.std.proofs.Common.{◌≡◌, ℕ, suc, ◌+◌, ◌*◌, ◌^◌, ◌<◌, Bool, true, false, not, ◌||◌, ltb, ◌≢◌, List, [], ◌∷◌, length, get_or, set, sym, refl, ◌∙◌, arith, get_or-set_other, get_or-set_same, lt-ltb}
use Rattle.bits.specs.Choice.{pick}
use Rattle.word.specs.declared.Single.{Single}
use Rattle.word.specs.declared.Block.{Block}
use Rattle.datapath.specs.Counter.{ahead}
use Rattle.memory.specs.Memory.{Memory, read_word}
use Rattle.registers.specs.State.{State}
use Rattle.registers.specs.Registers.{register, put, out, arrives}
use Rattle.transfer.specs.Single as single
use Rattle.transfer.specs.Block as block
use Rattle.transfer.proofs.Lengths.{single-base-length, block-base-length}
use Rattle.transfer.proofs.NamedRegisters.{named-rising}
use Rattle.transfer.proofs.Arrivals.{loaded_at}
use Rattle.semantics.specs.Effect.{load_effect, store_effect, block_load_effect}
use Rattle.semantics.specs.OwnBase.{SingleBase, BlockBase, OwnBase, after_load, after_block_load, changed}

put_same : (g : List ℕ) (x v : ℕ) → x < 15 → length g ≡ 15 → get_or (put g x v) x 0 ≡ v
unfolding put
put_same g x v h l = rw (lt-ltb x 15 h) (get_or-set_same g x v 0 (omega arith))

pick_put : (b : Bool) (g : List ℕ) (x v : ℕ) → b ≡ true → x < 15 → length g ≡ 15 → get_or (pick b (put g x v) g) x 0 ≡ v
pick_put b g x v e h l = rw e (put_same g x v h l)

put_other : (g : List ℕ) (x v r : ℕ) → r ≢ x → get_or (put g x v) r 0 ≡ get_or g r 0
unfolding put
put_other g x v r d = go (ltb x 15)
  where
    go : (t : Bool) → get_or (pick t (set g x v) g) r 0 ≡ get_or g r 0
    go true = get_or-set_other g x r v 0 d
    go false = refl

-- what a register that arrives leaves of another
arrives-other : (g : List ℕ) (f n v r : ℕ) → r ≢ n → get_or (arrives g f n v).registers r 0 ≡ get_or g r 0
unfolding arrives
arrives-other g f n v r d = go (ltb n 15)
  where
    go : (t : Bool) → get_or (pick t (out (set g n v) f None) (out g f (Some v))).registers r 0 ≡ get_or g r 0
    go true = get_or-set_other g n r v 0 d
    go false = refl

or-true : (b : Bool) → (b || true) ≡ true
or-true true = refl
or-true false = refl

module _ (i : Single) (s : State) (low : i.rn < 15) (l : length s.registers ≡ 15) where
  abbrev g : List ℕ
  g = s.registers

  abbrev base : ℕ
  base = changed i s

  abbrev value : ℕ
  value = single.loaded_value i s.memory (single.address_of i g s.status (ahead s.a 8))

  with-base : single.writes_base i ≡ true → get_or (single.with_base i g base) i.rn 0 ≡ base
  unfolding single.with_base
  with-base w = pick_put (single.writes_base i) g i.rn base w low l

  post : i.p ≡ false → single.writes_base i ≡ true
  post e = rw e

  back : i.w ≡ true → single.writes_base i ≡ true
  back e = rw e (or-true (not i.p))

  loaded : i.rd < 15 → after_load i s i.rd ≡ value
  unfolding load_effect arrives
  loaded h = rw (lt-ltb i.rd 15 h) (get_or-set_same (single.with_base i g base) i.rd value 0 (omega (arith, single-base-length i g base)))

  other : i.rd ≢ i.rn → after_load i s i.rn ≡ get_or (single.with_base i g base) i.rn 0
  unfolding load_effect
  other d = arrives-other (single.with_base i g base) s.status i.rd value i.rn (λ e. d (sym e))

  single-base : SingleBase i s
  unfolding store_effect single.stored_value register single.with_base
  single-base = record {
    loaded = loaded;
    post_indexed = λ e d. other d ∙ with-base (post e);
    written_back = λ e d. other d ∙ with-base (back e);
    kept = λ e w d. other d ∙ rw (e, w);
    stored = λ e. rw (e, lt-ltb i.rn 15 low);
    stored_post_indexed = λ e. with-base (post e);
    stored_written_back = λ e. with-base (back e);
  }

-- a register that is not named is kept
unnamed : (f : ℕ) (mem : Memory) (xs g : List ℕ) (a r : ℕ) → ((k : ℕ) → k < length xs → get_or xs k 16 ≢ r) → get_or (block.loads xs g f a mem).registers r 0 ≡ get_or g r 0
unfolding block.loads
unnamed f mem [] g a r n = refl
unnamed f mem (x ∷ []) g a r n = arrives-other g f x (read_word mem a) r (λ e. n 0 (omega arith) (sym e))
unnamed f mem (x ∷ (y ∷ ys)) g a r n =
    unnamed f mem (y ∷ ys) (put g x (read_word mem a)) (block.next a) r (λ k h. n (suc k) (omega arith))
    ∙ put_other g x (read_word mem a) r (λ e. n 0 (omega arith) (sym e))

module _ (i : Block) (s : State) (low : i.rn < 15) (l : length s.registers ≡ 15) where
  abbrev with-changed : List ℕ
  with-changed = block.with_base i s.registers (block.changed_base i s.registers)

  kept-length : length with-changed ≡ 15
  kept-length = block-base-length i s.registers (block.changed_base i s.registers) ∙ l

  base-loaded : (k : ℕ) → k < block.count i → get_or (block.named i.list) k 16 ≡ i.rn → block.lowest_address i s.registers + 4 * block.count i < 2 ^ 32
      → after_block_load i s i.rn ≡ read_word s.memory (block.lowest_address i s.registers + 4 * k)
  unfolding block_load_effect
  base-loaded k h e w =
      let below : get_or (block.named i.list) k 16 < 15 = omega arith in
      rw e at (loaded_at s.status s.memory (block.named i.list) with-changed (block.lowest_address i s.registers) 0 k (named-rising i.list) kept-length h below w)

  base-written : i.w ≡ true → ((k : ℕ) → k < block.count i → get_or (block.named i.list) k 16 ≢ i.rn)
      → after_block_load i s i.rn ≡ block.changed_base i s.registers
  unfolding block_load_effect block.with_base
  base-written w n =
      unnamed s.status s.memory (block.named i.list) with-changed (block.lowest_address i s.registers) i.rn n
      ∙ pick_put i.w s.registers i.rn (block.changed_base i s.registers) w low l

  block-base : BlockBase i s
  block-base = record { loaded = base-loaded; written_back = base-written }

pub own-base : OwnBase
own-base = record { single = single-base; block = block-base }
