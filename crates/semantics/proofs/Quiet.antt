-- What an instruction that meets no stop knows.
-- Assumes nothing.
use Prim.Native.Nat.{ℕ, suc}
use mathlib.Core.Path.{◌≡◌, refl, sym, ◌∙◌}
use mathlib.Core.List.{List, [], ◌∷◌}
use mathlib.Core.Bool.{Bool, true, false, not, ◌||◌}
use native.Mathlib.Omega.{arith}
use lib.ListN.{length}
use lib.Dec.{eqb}
use borrow.Author.Tests.{not-false}
use Rattle.bits.specs.Choice.{pick}
use Rattle.word.specs.declared.Block.{Block}
use Rattle.word.specs.declared.Instruction.{Instruction}
use Rattle.word.specs.Reader.{is_other}
use Rattle.datapath.specs.Counter.{ahead}
use Rattle.registers.specs.State.{State}
use Rattle.transfer.specs.Block as block
use Rattle.stops.specs.Rules.{first_broken, is15, rule_broken}
use Rattle.stops.specs.Moves.{moved_by, stored_by}
use Rattle.stops.specs.Stops.{outside, hits, moved_stop, stop_of}
use Rattle.stops.proofs.Walks.{stop-was}
use Rattle.semantics.proofs.Both.{or-false}

quiet : (b : Bool) (q : ℕ) {m : ℕ} → pick b (suc q) m ≡ 0 → (b ≡ false) × (m ≡ 0)
quiet true q e = absurd (omega arith)
quiet false q e = (refl, e)

pub record Quiet (i : Instruction) (s : State) : Type 0 where
  pub known : is_other i ≡ false
  pub allowed : eqb (rule_broken i s) 0 ≡ true
  pub inside : outside (moved_by i s) s.memory.board ≡ false
  pub clear4 : hits (stored_by i s) (ahead s.a 4) s.memory.board ≡ false
  pub clear8 : hits (stored_by i s) (ahead s.a 8) s.memory.board ≡ false

pub quietly : (i : Instruction) (s : State) → stop_of i s ≡ 0 → Quiet i s
unfolding moved_stop
quietly i s e =
    let p = quiet (is_other i) 21 (sym (stop-was i s) ∙ e) in
    let q = quiet (not (eqb (rule_broken i s) 0)) 22 p.1 in
    let r = quiet (outside (moved_by i s) s.memory.board) 23 q.1 in
    let u = quiet (hits (stored_by i s) (ahead s.a 4) s.memory.board || hits (stored_by i s) (ahead s.a 8) s.memory.board) 24 r.1 in
    let v = or-false (hits (stored_by i s) (ahead s.a 4) s.memory.board) u.0 in
    record { known = p.0; allowed = not-false (eqb (rule_broken i s) 0) q.0; inside = r.0; clear4 = v.0; clear8 = v.1 }

-- a block that breaks no rule names a register
pub names-some : (i : Block) (s : State) → eqb (rule_broken (Instruction.Block i) s) 0 ≡ true → (x : ℕ) × (xs : List ℕ) × (block.named i.list ≡ x ∷ xs)
unfolding rule_broken
names-some i s e = go (block.named i.list) refl (is15 i.rn) i.s e
  where
    go : (l : List ℕ) → block.named i.list ≡ l → (p q : Bool)
        → eqb (first_broken 6 (p ∷ (q ∷ (eqb (length (block.named i.list)) 0 ∷ [])))) 0 ≡ true → (x : ℕ) × (xs : List ℕ) × (block.named i.list ≡ x ∷ xs)
    go [] d true q e = (0, [], cc)
    go [] d false true e = (0, [], cc)
    go [] d false false e = (0, [], let z : false ≡ true = rw d at e in cc)
    go (x ∷ xs) d p q e = (x, xs, d)
