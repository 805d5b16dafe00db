-- The stores of an instruction at hand, as the code has them. Assumes nothing.
use Rattle.std.specs.Prelude.{Option, Some, None}
use Prim.Native.Nat.{ℕ, ◌+◌, ◌-◌}
use mathlib.Core.Path.{◌≡◌, refl, sym, ap}
use mathlib.Core.List.{List, []}
use mathlib.Core.Bool.{true, false}
use native.Mathlib.Omega.{arith}
use Rattle.bits.specs.Bits.{field}
use Rattle.bits.specs.Choice.{pick}
use Rattle.condition.specs.Condition.{passes}
use Rattle.word.specs.Reader.{read_of}
use Rattle.stops.specs.Stops.{due}
use Rattle.link.specs.declared.Window.{Window}
use Rattle.link.specs.Window.{handed}
use Rattle.stores.specs.Planned.{writes_due}
use Rattle.watch.specs.Told.{Tells}
use Rattle.watch.proofs.Telling.{none-told}
use Rattle.word.specs.declared.Single.{Single}
use Rattle.word.specs.declared.Block.{Block}
use Rattle.word.specs.declared.Processing.{Processing}
use Rattle.word.specs.declared.Branch.{Branch}
use Rattle.word.specs.declared.Multiply.{Multiply}
use Rattle.word.specs.declared.Instruction.{Instruction}
use Rattle.datapath.specs.Counter.{ahead}
use Rattle.registers.specs.State.{State}
use Rattle.transfer.specs.Single as single
use Rattle.transfer.specs.Block as block
use Rattle.link.specs.declared.Store.{Store}
use Rattle.stores.specs.Writes.{left, width, burst, first_address, writes}
use Rattle.stores.proofs.First.{none-written}

-- nothing is stored
pub no-stores : (bytes a c t : ℕ) → burst 0 bytes a c t ≡ []
unfolding burst
no-stores bytes a c t = refl

pub single-loads : (i : Single) (s : State) (c t : ℕ) → i.l ≡ true → writes (Instruction.Single i) s c t ≡ []
single-loads i s c t e = none-written (Instruction.Single i) (λ k. unfold left in ap {B = ℕ} (λ b. pick b 0 1) e) s c t

pub single-stores : (i : Single) (s : State) (c t b : ℕ) → i.l ≡ false → b ≡ pick i.b 1 4
    → burst 1 b (single.address_of i s.registers s.status (ahead s.a 8)) (c + 2) (t + 4) ≡ writes (Instruction.Single i) s c t
unfolding writes left width first_address
single-stores i s c t b e w = rw w (ap (λ l. burst (pick l 0 1) (pick i.b 1 4) (single.address_of i s.registers s.status (ahead s.a 8)) (c + 2) (t + 4)) (sym e))

pub block-loads : (i : Block) (s : State) (c t : ℕ) → i.l ≡ true → writes (Instruction.Block i) s c t ≡ []
block-loads i s c t e = none-written (Instruction.Block i) (λ k. unfold left in ap (λ b. pick b 0 (block.count i - k)) e) s c t

pub block-stores : (i : Block) (s : State) (c t n : ℕ) → i.l ≡ false → n ≡ block.count i
    → burst n 4 (block.lowest_address i s.registers) (c + 2) (t + 4) ≡ writes (Instruction.Block i) s c t
unfolding writes left width first_address
block-stores i s c t n e w =
    let z : block.count i - 0 ≡ block.count i = omega arith in
    rw (w, z) (ap (λ l. burst (pick l 0 (block.count i)) 4 (block.lowest_address i s.registers) (c + 2) (t + 4)) (sym e))

-- the other classes store nothing
pub processing-stores : (i : Processing) (s : State) (c t : ℕ) → writes (Instruction.Processing i) s c t ≡ []
processing-stores i s c t = none-written (Instruction.Processing i) (λ k. unfold left in refl) s c t

pub branch-stores : (i : Branch) (s : State) (c t : ℕ) → writes (Instruction.Branch i) s c t ≡ []
branch-stores i s c t = none-written (Instruction.Branch i) (λ k. unfold left in refl) s c t

pub multiply-stores : (i : Multiply) (s : State) (c t : ℕ) → writes (Instruction.Multiply i) s c t ≡ []
multiply-stores i s c t = none-written (Instruction.Multiply i) (λ k. unfold left in refl) s c t

pub other-stores : (w : ℕ) (s : State) (c t : ℕ) → writes (Instruction.Other w) s c t ≡ []
other-stores w s c t = none-written (Instruction.Other w) (λ k. unfold left in refl) s c t

-- what is due, told
module _ (w : Window) (found : List Store) (n : ℕ) (s : State) (c t : ℕ) where
  pub none-due : (f : ℕ) {x : Option ℕ} → x ≡ None → Tells n found n found (handed w (writes_due (due x f) s c t))
  unfolding due handed
  none-due f e = rw e (none-told found n)

  pub failed-due : (f : ℕ) {x : Option ℕ} (word : ℕ) → x ≡ Some word → passes (field word 28 4) f ≡ false → Tells n found n found (handed w (writes_due (due x f) s c t))
  unfolding due handed
  failed-due f word e h = rw (e, h) (none-told found n)

  pub passed-due : (f : ℕ) {x : Option ℕ} (word m : ℕ) (xs new : List Store) → x ≡ Some word → passes (field word 28 4) f ≡ true → xs ≡ writes (read_of word) s c t
      → Tells n found m new (handed w xs) → Tells n found m new (handed w (writes_due (due x f) s c t))
  unfolding due
  passed-due f word m xs new e h i j = rw (e, h, ← i) j
