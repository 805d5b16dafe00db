-- The array of a core and its record are inverse to each other. Assumes nothing.
use Rattle.std.specs.Prelude.{Option, ℕ}
use Rattle.std.proofs.Common.{◌≡◌, ℕ, ◌+◌, ◌^◌, ◌<◌, true, ◌&&◌, List, ◌∷◌, ◌++◌, length, ap}
use Rattle.steps.specs.declared.Phase.{Phase}
use Rattle.steps.specs.declared.Phase.TheVariants.{Later}
use Rattle.cycle.specs.declared.Control.{Control}
use Rattle.pipeline.specs.declared.Core.{Core}
use Rattle.semantics.specs.Sums.{nsi}
use Rattle.cycle.specs.declared.Counts.{Counts}
use Rattle.cycle.specs.Machine.{pipe, counts}
use Rattle.pipeline.specs.Calls.{core}
use Rattle.arrays.specs.Words.{at, firsts}
use Rattle.arrays.proofs.Words.{by-firsts}
use Rattle.core_arrays.specs.Fetched.{stands_for_fetched}
use Rattle.core_arrays.specs.CoreArray.{packed, unpacked, stands_for_core}
use Rattle.core_arrays.specs.Places.{core_word_count}
use Rattle.core_arrays.proofs.CountLaws.{count-back, count-words-back}
use Rattle.core_arrays.proofs.FetchedLaws.{fetched-back, stands-fetched, both, fetched-words-back}
use Rattle.core_arrays.proofs.PhaseLaws.{phase-back, number-back}

-- ---- from a core to its array and back

-- a control with these parts that are two words or a case, and the others as they are
remade : Control → Option ℕ → Option ℕ → Option ℕ → Phase → Counts → Control
remade c ir1 ir2 ix phase n =
    record { flags = c.flags; pipe = pipe c.pipe.pc ir1 ir2 ix; phase = phase; latches = c.latches; counts = n; stop = c.stop; board = c.board }

remade-same : (c : Control) {i j x : Option ℕ} {p : Phase} {n : Counts}
    → i ≡ c.pipe.ir1 → j ≡ c.pipe.ir2 → x ≡ c.pipe.ix → p ≡ c.phase → n ≡ c.counts
    → remade c i j x p n ≡ remade c c.pipe.ir1 c.pipe.ir2 c.pipe.ix c.phase c.counts
remade-same c a b d e f = cc

-- five counts of two words
counts-same : (c : Counts) {t k n s i : ℕ} → t ≡ c.cycles → k ≡ c.retired → n ≡ c.sums.n → s ≡ c.sums.s → i ≡ c.sums.i → counts t k (nsi n s i) ≡ c
counts-same c a b d e f = rw (a, b, d, e, f)

back_at : (f : ℕ → ℕ) (c : Control) → ((k : ℕ) → c.phase ≡ Later k → k + 3 < 2 ^ 32) → unpacked (packed (core (firsts 15 f) c)) ≡ core (firsts 15 f) c
unfolding packed unpacked remade
back_at f c h =
    ap (λ (k : Control). core (firsts 15 f) k)
    (remade-same c (fetched-back c.pipe.ir1) (fetched-back c.pipe.ir2) (fetched-back c.pipe.ix) (phase-back c.phase h)
    (counts-same c.counts (count-back c.counts.cycles) (count-back c.counts.retired) (count-back c.counts.sums.n) (count-back c.counts.sums.s) (count-back c.counts.sums.i)))

-- a core of 15 registers whose phase fits a word
pub core-back : (c : Core) → length c.registers ≡ 15 → ((k : ℕ) → c.control.phase ≡ Later k → k + 3 < 2 ^ 32) → unpacked (packed c) ≡ c
core-back c l h =
    by-firsts 15 (λ g. unpacked (packed (core g c.control)) ≡ core g c.control) (λ f. back_at f c.control h) c.registers l

-- the array of every core stands for one
pub stands-packed : (c : Core) → stands_for_core (packed c) ≡ true
unfolding packed stands_for_core
stands-packed c = rw (stands-fetched c.control.pipe.ir1, stands-fetched c.control.pipe.ir2, stands-fetched c.control.pipe.ix)

-- ---- from an array to its core and back

-- an array with these parts that are two words or a case, and the others as they are
refilled : (ℕ → ℕ) → List ℕ → List ℕ → List ℕ → ℕ → List ℕ → List ℕ → List ℕ → List ℕ → List ℕ → List ℕ
refilled f ir1 ir2 ix phase cycles retired n s i =
    firsts 15 f ++ f 15 ∷ f 16 ∷ ir1 ++ ir2 ++ ix ++ phase ∷ f 24 ∷ f 25 ∷ f 26 ∷ cycles ++ retired ++ f 31 ∷ f 32 ∷ n ++ s ++ i

refilled_same : (f : ℕ → ℕ) {i i' j j' x x' m m' n n' u u' v v' w w' : List ℕ} {p p' : ℕ} → i ≡ i' → j ≡ j' → x ≡ x' → p ≡ p' → m ≡ m' → n ≡ n' → u ≡ u' → v ≡ v' → w ≡ w'
    → refilled f i j x p m n u v w ≡ refilled f i' j' x' p' m' n' u' v' w'
refilled_same f a b d e g h k l o = cc

words-back-at : (f : ℕ → ℕ) → ((k : ℕ) → at (firsts core_word_count f) k < 2 ^ 32) → stands_for_core (firsts core_word_count f) ≡ true → packed (unpacked (firsts core_word_count f)) ≡ firsts core_word_count f
unfolding packed unpacked stands_for_core refilled
words-back-at f b s =
    let outer : (stands_for_fetched (f 17) (f 18) ≡ true) × ((stands_for_fetched (f 19) (f 20) && stands_for_fetched (f 21) (f 22)) ≡ true) = both _ _ s in
    let inner : (stands_for_fetched (f 19) (f 20) ≡ true) × (stands_for_fetched (f 21) (f 22) ≡ true) = both _ _ outer.1 in
    refilled_same f (fetched-words-back (f 17) (f 18) outer.0) (fetched-words-back (f 19) (f 20) inner.0) (fetched-words-back (f 21) (f 22) inner.1) (number-back (f 23) (b 23)) (count-words-back (f 27) (f 28) (b 27) (b 28)) (count-words-back (f 29) (f 30) (b 29) (b 30))
    (count-words-back (f 33) (f 34) (b 33) (b 34)) (count-words-back (f 35) (f 36) (b 35) (b 36)) (count-words-back (f 37) (f 38) (b 37) (b 38))

-- an array of words that stands for a core
pub core-words-back : (words : List ℕ) → length words ≡ core_word_count → ((k : ℕ) → at words k < 2 ^ 32) → stands_for_core words ≡ true → packed (unpacked words) ≡ words
core-words-back =
    by-firsts core_word_count (λ words. ((k : ℕ) → at words k < 2 ^ 32) → stands_for_core words ≡ true → packed (unpacked words) ≡ words) words-back-at
