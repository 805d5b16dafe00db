-- How many registers a walk over a block looks at, and which is the last.
-- Assumes nothing.
use Prim.Native.Nat.{ℕ, zero, suc, ◌+◌, ◌*◌, ◌%◌, ◌^◌, ◌≤◌, ◌<◌}
use mathlib.Core.Path.{◌≡◌, refl, sym, ap, ◌∙◌}
use mathlib.Core.Bool.{Bool, true, false}
use mathlib.Core.List.{List, [], ◌∷◌}
use native.Mathlib.Omega.{arith}
use lib.Count.{ones}
use lib.Dec.{ltb, eqb}
use lib.ListN.{length}
use lib.Pow.{pow_mono, pow_pos}
use native.Mathlib.Nat.{mod-lt}
use borrow.Author.Tests.{ltb-true, ltb-false, eqb-true}
use Rattle.bits.specs.Bits.{bit, field}
use Rattle.bits.specs.Choice.{pick}
use Rattle.word.specs.declared.Block.{Block}
use Rattle.word.specs.Reader.{read_of}
use Rattle.datapath.specs.Counter.{ahead}
use Rattle.registers.specs.Registers.{register}
use Rattle.memory.specs.declared.Board.{Board}
use Rattle.memory.specs.Memory.{place, limit}
use Rattle.registers.specs.State.{State}
use Rattle.transfer.specs.Block as block
use Rattle.transfer.specs.Block.{named}
use Rattle.transfer.proofs.NamedRegisters.{named_count}
use Rattle.transfer.proofs.NamedPlaces.{named-back, below-rises}
use Rattle.stops.specs.Moves.{moves_from, moves_of}
use Rattle.stops.specs.Walk.{Walked, behind, walk}
use Rattle.stops.specs.Looks.{below, place_of, Names, Looking, MarkedWalks}

-- ---- a walk over registers from an address on, by their number

-- it looked at k + 1 of them, k inside and the last outside
abbrev Ended : ℕ → Board → Walked → Type 0
Ended a board w = (k : ℕ) × (suc k ≡ w.looked) × (limit board ≤ a + 4 * k) × ((j : ℕ) → j < k → a + 4 * j < limit board)

record Ends (n a : ℕ) (board : Board) (w : Walked) : Type 0 where
  some : 1 ≤ n → 1 ≤ w.looked
  most : w.looked ≤ n
  all : (w.stop ≡ 24 → ⊥) → w.looked ≡ n
  last : w.stop ≡ 24 → Ended a board w

module _ (f : Bool) (w : Walked) where
  behind-is : w.stop ≡ 24 → (behind 1 f w).stop ≡ 24
  behind-is e = rw e

  behind-was : (behind 1 f w).stop ≡ 24 → w.stop ≡ 24
  behind-was = go f (eqb w.stop 24) refl
    where
      go : (f t : Bool) → eqb w.stop 24 ≡ t → pick t 24 (pick f 25 w.stop) ≡ 24 → w.stop ≡ 24
      go f true e z = eqb-true _ _ e
      go true false e z = absurd (omega arith)
      go false false e z = z

module _ (load : Bool) (a : ℕ) (board : Board) where
  one-more : (f : Bool) (n b : ℕ) (w : Walked) → b < limit board → Ends n (b + 4) board w → Ends (suc n) b board (behind 1 f w)
  one-more f n b w h r = record {
    some = λ x. omega arith;
    most = omega (arith, r.most);
    all = λ x. let e = r.all (λ e. x (behind-is f w e)) in omega (arith, e);
    last = λ x. go (r.last (behind-was f w x));
  }
    where
      inside : (k : ℕ) → ((j : ℕ) → j < k → b + 4 + 4 * j < limit board) → (j : ℕ) → j < suc k → b + 4 * j < limit board
      inside k s zero l = omega arith
      inside k s (suc j) l = omega (arith, s j (omega arith))

      go : Ended (b + 4) board w → Ended b board (behind 1 f w)
      go e = (suc e.0, omega (arith, e.1), omega (arith, e.2), inside e.0 e.3)

  ends : (xs : List ℕ) (b : ℕ) → Ends (length xs) b board (walk (moves_from xs b) load a board)
  unfolding walk
  ends [] b = record { some = λ x. x; most = omega arith; all = λ x. refl; last = λ x. absurd (omega arith) }
  ends (x ∷ xs) b = go (ltb b (limit board)) refl (ends xs (b + 4))
    where
      go : (t : Bool) → ltb b (limit board) ≡ t → Ends (length xs) (b + 4) board (walk (moves_from xs (b + 4)) load a board)
          → Ends (suc (length xs)) b board (walk (moves_from (x ∷ xs) b) load a board)
      go false e r =
          let out = ltb-false _ _ e in
          rw e record { some = λ n. omega arith; most = omega arith; all = λ n. absurd (n refl); last = λ z. (0, refl, omega arith, λ j l. absurd (omega arith)) }
      go true e r = rw e (one-more _ (length xs) b _ (ltb-true _ _ e) r)

-- ---- the same by the bits of the list

below-ones : (list x : ℕ) → x ≤ 16 → below list x ≡ ones (list % 2 ^ x)
below-ones list x h =
    let short : list % 2 ^ x < 2 ^ x = mod-lt list (pow_pos x) in
    sym (named_count (list % 2 ^ x) (omega (arith, pow_mono h, short)))

lowest-lt : (i : Block) (g : List ℕ) → block.lowest_address i g < 2 ^ 32
unfolding block.lowest_address
lowest-lt i g = omega arith

module _ (i : Block) (s : State) (short : s.memory.board.size ≤ 65536) where
  abbrev low : ℕ
  low = block.lowest_address i s.registers

  -- an address does not wrap before the first that is outside
  unwrapped : (k : ℕ) → ((j : ℕ) → j < k → low + 4 * j < s.memory.board.size) → low + 4 * k < 2 ^ 32
  unwrapped zero h = omega (arith, lowest-lt i s.registers)
  unwrapped (suc k) h = omega (arith, h k (omega arith))

  -- the register that is number k
  ended-on : (k : ℕ) → k < length (named i.list) → s.memory.board.size ≤ low + 4 * k → ((j : ℕ) → j < k → low + 4 * j < s.memory.board.size)
      → (x : ℕ) × Names i x × (below i.list x ≡ k) × (s.memory.board.size ≤ place_of i s x)
      × ((y : ℕ) → y < x → Names i y → place_of i s y < s.memory.board.size)
  ended-on k h out inside =
      let r = named-back i.list k h in
      let at : below i.list r.0 ≡ k = below-ones i.list r.0 (omega (arith, r.1)) ∙ r.3 in
      (r.0, (r.1, r.2), at, rw at (omega (arith, unwrapped k inside)), λ y l n. earlier r.0 r.1 at y l n)
    where
      earlier : (x : ℕ) → x < 16 → below i.list x ≡ k → (y : ℕ) → y < x → Names i y → place_of i s y < s.memory.board.size
      earlier x lx at y l n =
          let bx = below-ones i.list x (omega arith) in
          let by = below-ones i.list y (omega arith) in
          let less : below i.list y < k = omega (arith, below-rises i.list y x (omega arith) l n.1, bx, by, at) in
          omega (arith, inside (below i.list y) less)

pub looking : Looking
unfolding moves_of limit
looking i s short =
    let r = ends i.l s.a s.memory.board (named i.list) (low i s short) in
    record {
      some = r.some;
      most = r.most;
      all = r.all;
      last = λ e.
          let d = r.last e in
          let o = ended-on i s short d.0 (omega (arith, r.most, d.1)) d.2 d.3 in
          (o.0, o.1, ap suc o.2 ∙ d.1, o.3, o.4);
    }

pub marked-walks : MarkedWalks
unfolding field bit read_of ahead register block.named block.named_from block.changed_base block.lowest_address place limit moves_of walk
marked-walks = record {
  third_and_fourth = refl;
  third = refl;
  first = refl;
  second = refl;
  none = refl;
  down = refl;
  one = refl;
  one_outside = refl;
  load = refl;
  load_inside = refl;
  past = refl;
  nobody = refl;
}
