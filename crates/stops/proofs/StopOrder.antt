-- 24 before 25, by the words that an instruction moves.
-- Assumes nothing.
use mathlib.Core.Path.{◌≡◌, refl, sym, ap, ◌∙◌}
use mathlib.Core.Bool.{Bool, true, false, not, ◌||◌}
use mathlib.Core.List.{List, [], ◌∷◌}
use mathlib.Core.Logic.{◌⊎◌, inl, inr}
use Prim.Native.Nat.{ℕ, zero, suc, ◌+◌, ◌-◌, ◌*◌, ◌/◌, ◌%◌, ◌^◌, ◌≤◌, ◌<◌}
use native.Mathlib.Omega.{arith}
use lib.Dec.{ltb, leb}
use lib.ListN.{length}
use borrow.Author.Tests.{ltb-true, ltb-false, leb-true, leb-false}
use Rattle.bits.specs.Bits.{field, bit}
use Rattle.bits.specs.Choice.{pick}
use Rattle.word.specs.declared.Instruction.{Instruction}
use Rattle.word.specs.Reader.{read_of}
use Rattle.condition.specs.Condition.{passes}
use Rattle.datapath.specs.Counter.{ahead}
use Rattle.registers.specs.Registers.{register}
use Rattle.transfer.specs.Block as block
use Rattle.memory.specs.declared.Board.{Board}
use Rattle.memory.specs.Memory.{place, limit}
use Rattle.registers.specs.State.{State}
use Rattle.stops.specs.Rules.{rule_broken}
use Rattle.stops.specs.Moves.{loads, moves_from, moves_of, addresses, moved_by, stored_by, span}
use Rattle.stops.specs.Stops.{outside, hits, ordered, due, moved_stop, stop_of, stop_for}
use Rattle.stops.specs.StopOrder.{moved_count, first_moved, storing, Outside, Fetched, StopOrder, Ordered, MarkedOrder}
use Rattle.stops.specs.Walk.{walk}
use Rattle.stops.proofs.Spans.{inside, some-outside, hit, no_hit}
use Rattle.stops.proofs.Walks.{stop-was}

-- ---- the tests of a list of addresses, as words that there are

outside-met : (n a : ℕ) (board : Board) (k : ℕ) → k < n → limit board ≤ a + 4 * k → outside (span n a) board ≡ true
outside-met zero a board k h l = absurd (omega arith)
outside-met (suc n) a board k h l = some-outside n a board (omega arith)

outside-some : (n a : ℕ) (board : Board) → outside (span n a) board ≡ true → (k : ℕ) × (k < n) × (limit board ≤ a + 4 * k)
outside-some zero a board e = absurd (let z : ◌≡◌ {A = ℕ} 0 1 = cc in omega arith)
outside-some (suc n) a board e = (n, omega arith, go (ltb (a + 4 * n) (limit board)) refl)
  where
    go : (t : Bool) → ltb (a + 4 * n) (limit board) ≡ t → limit board ≤ a + 4 * n
    go false t = ltb-false _ _ t
    go true t =
        let h : a + 4 * n < limit board = ltb-true _ _ t in
        let z : ◌≡◌ {A = ℕ} 0 1 = cc (inside n a board h) in
        omega arith

-- an address that wraps follows one that is outside
unwrapped : (n a length : ℕ) → a < 2 ^ 32 → length ≤ 65536 → (k : ℕ) × (k < n) × (length ≤ a + 4 * k)
    → (k : ℕ) × (k < n) × (length ≤ (a + 4 * k) % 2 ^ 32)
unwrapped n a length h l s = go (ltb (a + 4 * s.0) (2 ^ 32)) refl
  where
    go : (t : Bool) → ltb (a + 4 * s.0) (2 ^ 32) ≡ t → (k : ℕ) × (k < n) × (length ≤ (a + 4 * k) % 2 ^ 32)
    go true t = let b : a + 4 * s.0 < 2 ^ 32 = ltb-true _ _ t in (s.0, s.1, omega (arith, s.2))
    go false t =
        let b : 2 ^ 32 ≤ a + 4 * s.0 = ltb-false _ _ t in
        ((2 ^ 32 - 1 - a) / 4, omega (arith, s.1), omega arith)

hits-met : (n a b : ℕ) (board : Board) (k : ℕ) → k < n → (a + 4 * k) / 4 ≡ b / 4 → hits (span n a) b board ≡ true
hits-met n a b board k h e = hit n a b board (omega arith) (omega arith)

hits-some : (n a b : ℕ) (board : Board) → hits (span n a) b board ≡ true → (k : ℕ) × (k < n) × ((a + 4 * k) / 4 ≡ b / 4)
hits-some n a b board e = go (leb (a / 4) (b / 4)) refl (ltb (b / 4) (a / 4 + n)) refl
  where
    missed : (b / 4 < a / 4) ⊎ (a / 4 + n ≤ b / 4) → (k : ℕ) × (k < n) × ((a + 4 * k) / 4 ≡ b / 4)
    missed m = absurd (let z : ◌≡◌ {A = ℕ} 0 1 = cc (no_hit n a b board m) in omega arith)

    go : (s : Bool) → leb (a / 4) (b / 4) ≡ s → (t : Bool) → ltb (b / 4) (a / 4 + n) ≡ t
        → (k : ℕ) × (k < n) × ((a + 4 * k) / 4 ≡ b / 4)
    go true s true t =
        let l : a / 4 ≤ b / 4 = leb-true _ _ s in
        let u : b / 4 < a / 4 + n = ltb-true _ _ t in
        (b / 4 - a / 4, omega arith, omega arith)
    go true s false t = missed (inr (ltb-false _ _ t))
    go false s t' t = missed (inl (leb-false _ _ s))

-- ---- the addresses moved and stored, as a first and a number of them

pub from-span : (xs : List ℕ) (a : ℕ) → addresses (moves_from xs a) ≡ span (length xs) a
from-span [] a = refl
from-span (x ∷ xs) a = ap (λ (l : List ℕ). a ∷ l) (from-span xs (a + 4))

module _ (s : State) where
  moved-span : (i : Instruction) → moved_by i s ≡ span (moved_count i) (first_moved i s)
  unfolding moves_of
  moved-span (Instruction.Processing i) = refl
  moved-span (Instruction.Single i) = refl
  moved-span (Instruction.Block i) = from-span (block.named i.list) (block.lowest_address i s.registers)
  moved-span (Instruction.Branch i) = refl
  moved-span (Instruction.Multiply i) = refl
  moved-span (Instruction.Other word) = refl

  storing-is : (i : Instruction) → storing i ≡ not (loads i)
  storing-is (Instruction.Processing i) = refl
  storing-is (Instruction.Single i) = refl
  storing-is (Instruction.Block i) = refl
  storing-is (Instruction.Branch i) = refl
  storing-is (Instruction.Multiply i) = refl
  storing-is (Instruction.Other word) = refl

  stored-span : (i : Instruction) → stored_by i s ≡ pick (storing i) (span (moved_count i) (first_moved i s)) []
  stored-span i = rw (moved-span i, storing-is i) (go (loads i) _)
    where
      go : (b : Bool) (xs : List ℕ) → pick b [] xs ≡ pick (not b) xs []
      go true xs = refl
      go false xs = refl

-- a word at b or at c, of those stored; below 2^26 none of them wraps
module _ (n a b c : ℕ) (board : Board) where
  abbrev stored : Bool → List ℕ
  stored t = pick t (span n a) []

  abbrev Either : Type 0
  Either = (k : ℕ) × (k < n) × (((a + 4 * k) % 2 ^ 32 / 4 ≡ b / 4) ⊎ ((a + 4 * k) % 2 ^ 32 / 4 ≡ c / 4))

  either-met : ((k : ℕ) → k < n → a + 4 * k < 2 ^ 32) → (t : Bool) → (t ≡ true) × Either → (hits (stored t) b board || hits (stored t) c board) ≡ true
  either-met low false p = absurd (let z : ◌≡◌ {A = ℕ} 0 1 = cc p.0 in omega arith)
  either-met low true p = go p.1.0 p.1.1 p.1.2
    where
      or-true : (x : Bool) → (x || true) ≡ true
      or-true true = refl
      or-true false = refl

      go : (k : ℕ) → k < n → ((a + 4 * k) % 2 ^ 32 / 4 ≡ b / 4) ⊎ ((a + 4 * k) % 2 ^ 32 / 4 ≡ c / 4)
          → (hits (span n a) b board || hits (span n a) c board) ≡ true
      go k h (inl e) = rw (hits-met n a b board k h (omega (arith, low k h)))
      go k h (inr e) = rw (hits-met n a c board k h (omega (arith, low k h))) (or-true (hits (span n a) b board))

  either-some : b < 2 ^ 26 → c < 2 ^ 26 → (t : Bool) → (hits (stored t) b board || hits (stored t) c board) ≡ true → (t ≡ true) × Either
  either-some hb hc false e = absurd (let z : ◌≡◌ {A = ℕ} 0 1 = cc in omega arith)
  either-some hb hc true e = (refl, go (hits (span n a) b board) refl e)
    where
      go : (x : Bool) → hits (span n a) b board ≡ x → (x || hits (span n a) c board) ≡ true → Either
      go true h e = let s = hits-some n a b board h in (s.0, s.1, inl (omega (arith, s.2)))
      go false h e = let s = hits-some n a c board e in (s.0, s.1, inr (omega (arith, s.2)))

-- ---- the order

never : {A : Type 0} → false ≡ true → A
never e = absurd (let z : ◌≡◌ {A = ℕ} 0 1 = cc in omega arith)

module _ (i : Instruction) (s : State) where
  order : (out fetched : Bool) → stop_of i s ≡ ordered out fetched
      → (Outside i s → out ≡ true) → (out ≡ true → Outside i s)
      → (out ≡ false → Fetched i s → fetched ≡ true) → (fetched ≡ true → Fetched i s)
      → StopOrder i s
  order true fetched e o o' t t' = record {
    is_24 = (λ x. o' refl, λ x. e);
    is_25 = (λ x. absurd (omega arith), λ x. absurd (x.0 (o' refl)));
    is_none = (λ x. absurd (omega arith), λ x. absurd (x.0 (o' refl)));
  }
  order false true e o o' t t' = record {
    is_24 = (λ x. absurd (omega arith), λ x. never (o x));
    is_25 = (λ x. (λ y. never (o y), t' refl), λ x. e);
    is_none = (λ x. absurd (omega arith), λ x. absurd (x.1 (t' refl)));
  }
  order false false e o o' t t' = record {
    is_24 = (λ x. absurd (omega arith), λ x. never (o x));
    is_25 = (λ x. absurd (omega arith), λ x. never (t refl x.1));
    is_none = (λ x. (λ y. never (o y), λ y. never (t refl y)), λ x. e);
  }

ahead-lt : (a n : ℕ) → ahead a n < 2 ^ 26
unfolding ahead
ahead-lt a n = omega arith

pub stop-order : Ordered
unfolding moved_stop limit
stop-order i s other rule word short =
    let n = moved_count i in
    let x = first_moved i s in
    let board = s.memory.board in
    let a = s.a in
    let all-low : outside (span n x) board ≡ false → (k : ℕ) → k < n → x + 4 * k < 2 ^ 32 = low n x board short in
    order i s
    (outside (span n x) board)
    (hits (pick (storing i) (span n x) []) (ahead a 4) board || hits (pick (storing i) (span n x) []) (ahead a 8) board)
    (stop-was i s ∙ rw (other, rule, stored-span s i, moved-span s i))
    (λ p. outside-met n x board p.0 p.1 (omega (arith, p.2)))
    (λ e. unwrapped n x board.size word short (outside-some n x board e))
    (λ e. either-met n x (ahead a 4) (ahead a 8) board (all-low e) (storing i))
    (either-some n x (ahead a 4) (ahead a 8) board (ahead-lt a 4) (ahead-lt a 8) (storing i))
  where
    low : (n x : ℕ) (board : Board) → board.size ≤ 65536 → outside (span n x) board ≡ false → (k : ℕ) → k < n → x + 4 * k < 2 ^ 32
    low n x board l e k h = go (ltb (x + 4 * k) (2 ^ 32)) refl
      where
        go : (t : Bool) → ltb (x + 4 * k) (2 ^ 32) ≡ t → x + 4 * k < 2 ^ 32
        go true t = ltb-true _ _ t
        go false t =
            let b : 2 ^ 32 ≤ x + 4 * k = ltb-false _ _ t in
            never (sym e ∙ outside-met n x board k h (omega arith))

pub marked-order : MarkedOrder
unfolding field bit read_of passes ahead register block.named block.named_from block.changed_base block.lowest_address rule_broken place limit moves_of walk due stop_of stop_for
marked-order = record {
  up = λ f. refl;
  up_inside = λ f. refl;
  down = λ f. refl;
  down_inside = λ f. refl;
  second_both = λ f. refl;
  all_both = λ f. refl;
  load = λ f. refl;
  load_inside = λ f. refl;
}
