-- What the functions of `stop` join: the stop of a single transfer is that of its address, a block's is none where its ends meet none, and a word's is that of what it reads as.
-- Assumes nothing.
use Prim.Native.Nat.{ℕ}
use mathlib.Core.Path.{◌≡◌, refl, sym, ap, ◌∙◌}
use mathlib.Core.Bool.{true}
use mathlib.Core.List.{[]}
use lib.Dec.{eqb}
use borrow.Author.Tests.{eqb-true}
use Rattle.bits.specs.Choice.{pick}
use Rattle.word.specs.declared.Single.{Single}
use Rattle.word.specs.declared.Block.{Block}
use Rattle.word.specs.declared.Instruction.{Instruction}
use Rattle.datapath.specs.Counter.{ahead}
use Rattle.registers.specs.State.{State}
use Rattle.transfer.specs.Single.{address_of}
use Rattle.transfer.specs.Block as block
use Rattle.stops.specs.Numbers.{other_word}
use Rattle.stops.specs.Rules.{first_broken, block_rules, rule_broken}
use Rattle.stops.specs.Moves.{moves_of, span}
use Rattle.stops.specs.Stops.{moved_stop, single_stop_at, stop_of}
use Rattle.stops.proofs.StopOrder.{from-span}
use Rattle.stops.proofs.Walks.{stop-was}

pub single-stop : (i : Single) (s : State) {address q : ℕ} → address ≡ address_of i s.registers s.status (ahead s.a 8)
    → q ≡ single_stop_at i address s.a s.memory.board → q ≡ stop_of (Instruction.Single i) s
unfolding rule_broken moves_of
single-stop i s e h = h ∙ ap (λ (x : ℕ). single_stop_at i x s.a s.memory.board) e ∙ sym (stop-was (Instruction.Single i) s)

-- a block where the two ends meet neither 24 nor 25
pub block-clear : (i : Block) (s : State) {n low : ℕ} → n ≡ block.count i → low ≡ block.lowest_address i s.registers → 0 ≡ first_broken 6 (block_rules i)
    → eqb (moved_stop (span n low) (pick i.l [] (span n low)) s.a s.memory.board) 0 ≡ true → 0 ≡ stop_of (Instruction.Block i) s
unfolding rule_broken moves_of
block-clear i s n low allowed clear =
    sym (stop-was (Instruction.Block i) s ∙ rw (← allowed, from-span (block.named i.list) (block.lowest_address i s.registers), ← n, ← low) (eqb-true _ _ clear))

pub read-stop : (s : State) {i j : Instruction} {q : ℕ} → i ≡ j → q ≡ stop_of i s → q ≡ stop_of j s
read-stop s e h = h ∙ ap (λ (x : Instruction). stop_of x s) e

pub other-stop : (w : ℕ) (s : State) → other_word ≡ stop_of (Instruction.Other w) s
unfolding stop_of
other-stop w s = refl
