-- Whether an instruction stores the counter goes by its word alone, and so does its duration but for m.
-- Assumes nothing.
use Rattle.std.specs.Prelude.{Some, None}
use Rattle.std.proofs.Common.{◌≡◌, ℕ, zero, suc, Bool, true, false, not, ◌&&◌, ltb, List, [], ◌∷◌, set, refl, arith}
use Rattle.bits.specs.Choice.{pick}
use Rattle.bits.specs.Bits.{bit}
use Rattle.word.specs.declared.Processing.{Processing}
use Rattle.word.specs.declared.Block.{Block}
use Rattle.word.specs.declared.Instruction.{Instruction}
use Rattle.datapath.specs.Alu.{stores_result}
use Rattle.memory.specs.Memory.{Memory, read_word}
use Rattle.registers.specs.Registers.{out, put, arrives}
use Rattle.processing.specs.Processing.{processed, stored}
use Rattle.multiply.specs.Multiply.{multiplied}
use Rattle.transfer.specs.Block as block
use Rattle.transfer.proofs.NamedRegisters.{Rising, named-rising}
use Rattle.transfer.proofs.NamedPlaces.{At, named-at, named-absent}
use Rattle.transfer.proofs.Arrivals.{goes_on}
use Rattle.semantics.specs.Branch.{branched}
use Rattle.semantics.specs.Effect.{effect_of, load_effect, store_effect, block_load_effect, block_store_effect}
use Rattle.semantics.specs.Duration.{refills, stores_counter, StoredCounters, duration_of}
use Rattle.semantics.specs.Perform.{executed, Lasting}

pub arriving : (g : List ℕ) (f n v : ℕ) → refills (arrives g f n v).goes ≡ pick (not (ltb n 15)) 2 0
unfolding arrives
arriving g f n v = go (ltb n 15)
  where
    go : (b : Bool) → refills (pick b (out (set g n v) f None) (out g f (Some v))).goes ≡ pick (not b) 2 0
    go true = refl
    go false = refl

-- a block that names R15 loads it last
loading-15 : (f : ℕ) (mem : Memory) (xs g : List ℕ) (a n k : ℕ) → Rising 16 n xs → At 15 k xs → refills (block.loads xs g f a mem).goes ≡ 2
unfolding block.loads arrives
loading-15 f mem [] g a n k u at = absurd (omega (arith, at.0))
loading-15 f mem (x ∷ []) g a n zero u at = rw at.1
loading-15 f mem (x ∷ []) g a n (suc k) u at = absurd (omega (arith, at.0))
loading-15 f mem (x ∷ (y ∷ ys)) g a n zero u at = absurd (omega (arith, at.1, u.2.0, u.2.1))
loading-15 f mem (x ∷ (y ∷ ys)) g a n (suc k) u at =
    loading-15 f mem (y ∷ ys) (put g x (read_word mem a)) (block.next a) (suc x) k u.2 (omega (arith, at.0), at.1)

-- whatever R15 reads as
pub processed-refills : (i : Processing) (g : List ℕ) (f pc : ℕ) → refills (processed i g f pc).goes ≡ pick (stores_counter (Instruction.Processing i)) 2 0
unfolding stores_counter processed stored
processed-refills i g f pc = go (stores_result i.operation) _ _
  where
    go : (b : Bool) (f v : ℕ) → refills (pick b (arrives g f i.rd v) (out g f None)).goes ≡ pick (b && not (ltb i.rd 15)) 2 0
    go true f v = arriving g f i.rd v
    go false f v = refl

pub block-loading : (i : Block) (f : ℕ) (mem : Memory) (g : List ℕ) (a : ℕ) → refills (block.loads (block.named i.list) g f a mem).goes ≡ pick (bit i.list 15) 2 0
block-loading i f mem g a = go (bit i.list 15) refl
  where
    go : (b : Bool) → bit i.list 15 ≡ b → refills (block.loads (block.named i.list) g f a mem).goes ≡ pick b 2 0
    go true e = loading-15 f mem (block.named i.list) g a 0 _ (named-rising i.list) (named-at i.list 15 (omega arith) e)
    go false e = rw (goes_on f mem (block.named i.list) g a 0 (named-rising i.list) (named-absent i.list 15 (omega arith) e))

pub stored-counters : StoredCounters
unfolding stores_counter effect_of load_effect store_effect block_load_effect block_store_effect branched multiplied
stored-counters (Instruction.Processing i) s = processed-refills i s.registers s.status _
stored-counters (Instruction.Single i) s = go i.l
  where
    go : (b : Bool) → refills (pick b (load_effect i s) (store_effect i s)).out.goes ≡ pick (b && not (ltb i.rd 15)) 2 0
    go true = arriving _ _ i.rd _
    go false = refl
stored-counters (Instruction.Block i) s = go i.l
  where
    go : (b : Bool) → refills (pick b (block_load_effect i s) (block_store_effect i s)).out.goes ≡ pick (b && bit i.list 15) 2 0
    go true = block-loading i _ _ _ _
    go false = refl
stored-counters (Instruction.Branch i) s = refl
stored-counters (Instruction.Multiply i) s = refl
stored-counters (Instruction.Other w) s = refl

pub lasting : Lasting
unfolding executed duration_of
lasting i s e = rw (e, stored-counters i s)
