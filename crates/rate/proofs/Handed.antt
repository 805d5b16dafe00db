-- The stores of some cycles: not more than the cycles, none of more than a word, and those of a part after those before it. Assumes nothing.
use Rattle.std.proofs.Common.{◌≡◌, ℕ, zero, suc, ◌+◌, ◌≤◌, Bool, true, false, Option, Some, None, List, [], ◌∷◌, ◌++◌, length, ap, ◌∙◌, arith}
use Rattle.std.specs.List.{All}
use Rattle.std.proofs.lemmas.List.{length-append}
use Rattle.std.proofs.lemmas.List.Elements.{All-nil, All-cons, All-append, All-head, All-tail}
use Rattle.bits.specs.Choice.{pick}
use Rattle.word.specs.declared.Instruction.{Instruction}
use Rattle.word.specs.Reader.{read_of}
use Rattle.steps.specs.declared.Phase.{Phase}
use Rattle.steps.specs.declared.Phase.TheVariants.{Step1, Refill1, Refill2, Later}
use Rattle.cycle.specs.Machine.{Machine}
use Rattle.cycle.specs.Cycle.{cycle}
use Rattle.runs.specs.Run.{reach}
use Rattle.link.specs.declared.Store.{Store}
use Rattle.link.specs.declared.Window.{Window}
use Rattle.link.specs.Window.{within, handed}
use Rattle.link.specs.Summary.{Word}
use Rattle.link.proofs.Handed.{parts}
use Rattle.stores.specs.Writes.{width, left}
use Rattle.stores.specs.Coming.{coming_in, first_of, coming, told_bytes, stored_by, stored}
use Rattle.stores.proofs.Flights.{stored-add}

-- ---- none of more than a word

first-small : (n bytes a : ℕ) → bytes ≤ 4 → (first_of n bytes a).bytes ≤ 4
first-small zero bytes a h = omega arith
first-small (suc n) bytes a h = h

width-small : (i : Instruction) → width i ≤ 4
unfolding width
width-small (Instruction.Processing i) = omega arith
width-small (Instruction.Single i) = go i.b
  where
    go : (b : Bool) → pick b 1 4 ≤ 4
    go true = omega arith
    go false = omega arith
width-small (Instruction.Block i) = omega arith
width-small (Instruction.Branch i) = omega arith
width-small (Instruction.Multiply i) = omega arith
width-small (Instruction.Other w) = omega arith

in-small : (p : Phase) (x : Option ℕ) (a : ℕ) → (coming_in p x a).bytes ≤ 4
in-small Step1 x a = omega arith
in-small Refill1 x a = omega arith
in-small Refill2 x a = omega arith
in-small (Later k) None a = omega arith
in-small (Later k) (Some w) a = first-small (left (read_of w) k) (width (read_of w)) a (width-small (read_of w))

coming-small : (m : Machine) → (coming m).bytes ≤ 4
unfolding coming
coming-small m = in-small m.control.phase m.control.pipe.ix m.control.latches.address

told-words : (n a cycle tick : ℕ) → n ≤ 4 → All Word (told_bytes n a cycle tick)
told-words zero a cycle tick h = All-nil Word
told-words (suc b) a cycle tick h = All-cons Word _ [] h (All-nil Word)

told-length : (n a cycle tick : ℕ) → length (told_bytes n a cycle tick) ≤ 1
told-length zero a cycle tick = omega arith
told-length (suc b) a cycle tick = omega arith

by-words : (m : Machine) → All Word (stored_by m)
unfolding stored_by
by-words m = told-words _ _ _ _ (coming-small m)

by-length : (m : Machine) → length (stored_by m) ≤ 1
unfolding stored_by
by-length m = told-length (coming m).bytes _ _ _

stored-words : (m : Machine) (t : ℕ) → All Word (stored m t)
unfolding stored
stored-words m zero = All-nil Word
stored-words m (suc t) = All-append Word (stored_by m) (stored (cycle m) t) (by-words m) (stored-words (cycle m) t)

stored-length : (m : Machine) (t : ℕ) → length (stored m t) ≤ t
unfolding stored
stored-length m zero = omega arith
stored-length m (suc t) = simp length-append (omega (arith, by-length m, stored-length (cycle m) t))

pick-words : (t : Bool) (e : Store) (es : List Store) → Word e → All Word es → All Word (pick t (e ∷ es) es)
pick-words true e es h k = All-cons Word e es h k
pick-words false e es h k = k

handed-words : (w : Window) (es : List Store) → All Word es → All Word (handed w es)
unfolding handed
handed-words w [] h = All-nil Word
handed-words w (e ∷ es) h = pick-words (within w e) e (handed w es) (All-head Word e es h) (handed-words w es (All-tail Word e es h))

pick-length : (t : Bool) (e : Store) (es : List Store) (n : ℕ) → length es ≤ n → length (pick t (e ∷ es) es) ≤ suc n
pick-length true e es n h = omega (arith, h)
pick-length false e es n h = omega (arith, h)

handed-length : (w : Window) (es : List Store) → length (handed w es) ≤ length es
unfolding handed
handed-length w [] = omega arith
handed-length w (e ∷ es) = pick-length (within w e) e (handed w es) (length es) (handed-length w es)

-- what some cycles stored into a window
abbrev pub into : Window → Machine → ℕ → List Store
into w m t = handed w (stored m t)

pub into-words : (w : Window) (m : Machine) (t : ℕ) → All Word (into w m t)
into-words w m t = handed-words w (stored m t) (stored-words m t)

pub into-length : (w : Window) (m : Machine) (t : ℕ) → length (into w m t) ≤ t
into-length w m t = omega (arith, handed-length w (stored m t), stored-length m t)

-- a part after those before it
pub into-add : (w : Window) (m : Machine) (a b : ℕ) → into w m (a + b) ≡ into w m a ++ into w (reach m a) b
into-add w m a b = ap (handed w) (stored-add m a b) ∙ parts w (stored m a) (stored (reach m a) b)
