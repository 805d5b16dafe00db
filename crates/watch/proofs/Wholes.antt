-- Whole instructions that tell their stores: one more, and one that meets a stop. Assumes nothing.
use Rattle.std.specs.Prelude.{Option, Some, None}
use Rattle.std.specs.Option.{is_some}
use Prim.Native.Nat.{ℕ, zero, suc, ◌+◌, ◌-◌, ◌≤◌}
use mathlib.Core.Path.{◌≡◌, refl, sym, ap, subst, ◌∙◌}
use mathlib.Core.List.{List, ◌++◌}
use mathlib.Core.Bool.{true, false}
use mathlib.Core.Logic.{◌≢◌, ⊎_elim}
use native.Mathlib.Omega.{arith}
use native.Mathlib.Nat.{add-zero, eq-or-lt_of_le, le_of_suc-le-suc}
use lib.ListN.{length, take}
use Rattle.std.proofs.lemmas.List.{length-take-le, take-take, take-append-le, take_all}
use Rattle.memory.specs.Memory.{word_at}
use Rattle.memory.specs.declared.Board.{Board}
use Rattle.stops.specs.declared.reason.Stop.{Stop}
use Rattle.stops.specs.Numbers.{held_number}
use Rattle.stops.specs.Stops.{due}
use Rattle.stops.proofs.Numbers.{some_number}
use Rattle.semantics.specs.declared.Sums.{Sums}
use Rattle.semantics.specs.declared.Tally.{Tally}
use Rattle.semantics.specs.Sums.{no_sums, plus, total, ticks}
use Rattle.semantics.specs.Tally.{tally, told_by}
use Rattle.semantics.proofs.Stopped.{stopped-unchanged}
use Rattle.plain.specs.Machine as plain
use Rattle.plain.specs.declared.Came.{Came}
use Rattle.plain.specs.Trace.{trace, stop_met, duration, durations, adds, added, Does}
use Rattle.plain.specs.Whole.{Wholes, wholes_of, none_done, longest, wholes, going, came_to}
use Rattle.plain.proofs.WholeSteps.{adds-timed, goes_on, by-met, plus-none}
use Rattle.link.specs.declared.Store.{Store}
use Rattle.link.specs.declared.Window.{Window}
use Rattle.link.specs.Window.{handed}
use Rattle.stores.specs.Planned.{writes_due, writes_at, stores_of}
use Rattle.watch.specs.Told.{Tells}
use Rattle.watch.specs.Quick.{Goes}
use Rattle.watch.proofs.Telling.{none-told, told-both}

-- ---- none yet

pub goes-start : (p : plain.Machine) (b : ℕ) (w : Tally) → w.n ≡ 0 → w.extra ≡ 0 → Goes p 0 (b - b) w p
goes-start p b w n e =
    let z : b - b ≡ 0 = omega arith in
    record {
      does = λ j h. absurd (omega arith);
      used_is = z ∙ (unfold durations in refl);
      sums_are = rw (n, e, z) (unfold added in refl);
      small = (omega (arith, n), omega (arith, e));
      there = unfold trace in refl;
    }

pub tells-none : (c : ℕ) (q : Sums) (p : plain.Machine) (w : Window) (found : List Store) (n : ℕ) → Tells n found n found (handed w (stores_of c q p 0))
unfolding stores_of handed
tells-none c q p w found n = none-told found n

-- what was told before stays
pub kept-told : (n m : ℕ) (old new es : List Store) → n ≤ m → n ≤ length old → take m new ≡ take n old ++ es → take n new ≡ take n old
kept-told n m old new es h l e =
    let long : length (take n old) ≡ n = length-take-le n old l in
    sym (take-take n m new h) ∙ ap (take n) e ∙ take-append-le n (take n old) es (omega (arith, long)) ∙ take_all n (take n old) (omega (arith, long))

-- ---- one instruction by the loop

module _ (m : plain.Machine) (b : ℕ) (room : longest ≤ b) (r : Wholes) (e : r ≡ wholes 1 b m) where
  -- by the stop that it meets
  abbrev by : ℕ → Wholes
  by q = elim q [ zero ↦ wholes_of 1 (duration m) (adds m) 0 (plain.step m) | suc s ↦ none_done (suc s) (plain.step m) ]

  one-by : (q : ℕ) → stop_met m ≡ q → r ≡ by q
  unfolding wholes
  one-by zero z =
      e ∙ goes_on b m 0 room z
      ∙ ap (λ (u : ℕ). wholes_of 1 u (plus (adds m) no_sums) 0 (plain.step m)) (add-zero (duration m))
      ∙ ap (λ (q : Sums). wholes_of 1 (duration m) q 0 (plain.step m)) (plus-none (adds m))
  one-by (suc s) z = e ∙ by-met b m 0 room z

  pub one-stop : r.stop ≡ stop_met m
  one-stop = go (stop_met m) refl
    where
      go : (q : ℕ) → stop_met m ≡ q → r.stop ≡ q
      go zero z = ap (λ (x : Wholes). x.stop) (one-by zero z)
      go (suc s) z = ap (λ (x : Wholes). x.stop) (one-by (suc s) z)

  pub one-done : stop_met m ≡ 0 → r ≡ wholes_of 1 (duration m) (adds m) 0 (plain.step m)
  one-done z = one-by 0 z

  pub one-stopped : stop_met m ≢ 0 → r.machine ≡ plain.step m
  one-stopped z = go (stop_met m) refl z
    where
      go : (q : ℕ) → stop_met m ≡ q → q ≢ 0 → r.machine ≡ plain.step m
      go zero i z = absurd (z refl)
      go (suc s) i z = ap (λ (x : Wholes). x.machine) (one-by (suc s) i)

-- a stop changes neither registers nor memory
pub stop-keeps : (m : plain.Machine) → stop_met m ≢ 0 → plain.step m ≡ plain.machine (plain.plain m.plain.registers m.plain.a m.plain.flags (stop_met m) m.plain.board) m.memory
unfolding stop_met plain.step plain.performed_at
stop-keeps m z =
    let word = word_at (plain.state_of m).memory m.plain.a in
    let s = stopped-unchanged word (plain.state_of m) in
    let u = s.unchanged (λ y. z (s.stop ∙ y)) in
    rw (u.registers, u.flags, u.address, u.memory)

-- what the loop hands back after one
module _ (m : plain.Machine) (b : ℕ) (room : longest ≤ b) (came : Came) (one : Tally) (g : List ℕ) (board : Board) (mem : List ℕ)
    (e : came_to came one g board mem ≡ wholes 1 b m) where
  pub one-quiet : held_number came.stop ≡ 0
      → (stop_met m ≡ 0) × (came.used ≡ duration m) × (told_by one 1 came.used ≡ adds m) × (going g came.flags came.a board mem ≡ plain.step m)
  one-quiet h =
      let q : stop_met m ≡ 0 = sym (one-stop m b room _ e) ∙ h in
      let r = one-done m b room _ e q in
      let d : came.done ≡ 1 = ap (λ (x : Wholes). x.done) r in (
        q,
        ap (λ (x : Wholes). x.used) r,
        ap (λ k. told_by one k came.used) (sym d) ∙ ap (λ (x : Wholes). x.sums) r,
        ap (λ s. plain.machine (plain.plain g came.a came.flags s board) mem) (sym h) ∙ ap (λ (x : Wholes). x.machine) r,
      )

  pub one-halted : held_number came.stop ≢ 0 → (g ≡ m.plain.registers) × (mem ≡ m.memory)
  one-halted h =
      let z : stop_met m ≢ 0 = λ x. h (one-stop m b room _ e ∙ x) in
      let s = one-stopped m b room _ e z ∙ stop-keeps m z in
      (ap (λ (x : plain.Machine). x.plain.registers) s, ap (λ (x : plain.Machine). x.memory) s)

pub none-held : (s : Option Stop) → is_some s ≡ false → held_number s ≡ 0
none-held None e = refl
none-held (Some x) e = cc

pub some-held : (s : Option Stop) → is_some s ≡ true → held_number s ≢ 0
some-held None e h = cc
some-held (Some x) e h = some_number x h

-- ---- one instruction more

more-does : (p : plain.Machine) (k : ℕ) → Does p k → stop_met (trace p k) ≡ 0 → Does p (suc k)
more-does p k d e j h = ⊎_elim (λ i. rw i e) (λ l. d j l) (eq-or-lt_of_le (le_of_suc-le-suc h))

-- what it adds, from what its tally tells
module _ (m : plain.Machine) (one : Tally) (u : ℕ) (is : told_by one 1 u ≡ adds m) (lasts : u ≡ duration m) where
  pub one-small : (one.n ≤ 1 + one.extra) × (1 + one.extra ≤ u)
  one-small =
      let all : total (told_by one 1 u) ≡ u = ap total is ∙ adds-timed m ∙ sym lasts in
      (omega arith, omega arith)

  -- told after others
  more-told : (w : Tally) (k used : ℕ) (q : Sums) → told_by w k used ≡ q → (w.n ≤ k + w.extra) × (k + w.extra ≤ used)
      → told_by (tally (w.n + one.n) (w.extra + one.extra)) (k + 1) (used + u) ≡ plus q (adds m)
  more-told w k used q h (a, b) =
      let o = one-small in
      let s : k + 1 + (w.extra + one.extra) - (w.n + one.n) ≡ (k + w.extra - w.n) + (1 + one.extra - one.n) = omega (arith, o.0) in
      let i : used + u - (k + 1 + (w.extra + one.extra)) ≡ (used - (k + w.extra)) + (u - (1 + one.extra)) = omega (arith, o.1) in
      rw (s, i) (ap (λ (x : Sums). plus x (told_by one 1 u)) h ∙ ap (plus q) is)

-- the stores of an instruction that meets no stop are those that are due
quiet-writes : (m : plain.Machine) → stop_met m ≡ 0 → (c t : ℕ) → writes_due (due (word_at (plain.state_of m).memory m.plain.a) m.plain.flags) (plain.state_of m) c t ≡ writes_at m c t
unfolding writes_at
quiet-writes m z c t = rw z

one-longer : (c : ℕ) (q : Sums) (p : plain.Machine) (k : ℕ) (v : Window) (n₀ n₁ n₂ : ℕ) (f₀ f₁ f₂ : List Store)
    → Tells n₀ f₀ n₁ f₁ (handed v (stores_of c q p k)) → Tells n₁ f₁ n₂ f₂ (handed v (writes_at (trace p k) (c + durations p k) (ticks (plus q (added p k)))))
    → Tells n₀ f₀ n₂ f₂ (handed v (stores_of c q p (suc k)))
unfolding stores_of
one-longer c q p k v n₀ n₁ n₂ f₀ f₁ f₂ x y = told-both v n₀ n₁ n₂ f₀ f₁ f₂ (stores_of c q p k) _ x y

module _ (p : plain.Machine) (k used : ℕ) (w : Tally) (m : plain.Machine) (g : Goes p k used w m) where
  pub goes-more : (one : Tally) (u : ℕ) (n : plain.Machine) (to : ℕ) → stop_met m ≡ 0 → told_by one 1 u ≡ adds m → u ≡ duration m → n ≡ plain.step m → to ≡ used + u
      → Goes p (k + 1) to (tally (w.n + one.n) (w.extra + one.extra)) n
  unfolding durations added trace
  goes-more one u n to z is lasts next sum =
      let s : k + 1 ≡ suc k = omega arith in
      let o = one-small m one u is lasts in
      let f = more-told m one u is lasts w k used (added p k) g.sums_are g.small in
      let at : stop_met (trace p k) ≡ 0 = rw g.there at z in
      rw (sum, s) (record {
        does = more-does p k g.does at;
        used_is = omega (arith, g.used_is, lasts, ap duration g.there);
        sums_are = rw s at f ∙ ap (λ (x : plain.Machine). plus (added p k) (adds x)) g.there;
        small = (omega (arith, g.small.0, o.0), omega (arith, g.small.1, o.1));
        there = next ∙ ap plain.step g.there;
      })

  -- the cycle and the tick at which it begins
  began-cycle : (c : ℕ) → c + used ≡ c + durations p k
  began-cycle c = ap (λ x. c + x) g.used_is

  began-tick : (q : Sums) → ticks q + used + w.n ≡ ticks (plus q (added p k))
  began-tick q =
      let t = g.sums_are in
      let n : w.n ≡ (added p k).n = ap (λ (x : Sums). x.n) t in
      let a : total (told_by w k used) ≡ total (added p k) = ap total t in
      omega (arith, n, a, g.small.0, g.small.1)

  -- its stores after those before it
  pub tells-more : (c : ℕ) (q : Sums) (v : Window) (n₀ n₁ n₂ ticked : ℕ) (f₀ f₁ f₂ : List Store) → stop_met m ≡ 0 → ticked ≡ ticks q
      → Tells n₀ f₀ n₁ f₁ (handed v (stores_of c q p k))
      → Tells n₁ f₁ n₂ f₂ (handed v (writes_due (due (word_at (plain.state_of m).memory m.plain.a) m.plain.flags) (plain.state_of m) (c + used) (ticked + used + w.n)))
      → Tells n₀ f₀ n₂ f₂ (handed v (stores_of c q p (k + 1)))
  tells-more c q v n₀ n₁ n₂ ticked f₀ f₁ f₂ z e x y =
      let s : k + 1 ≡ suc k = omega arith in
      let at : writes_due (due (word_at (plain.state_of m).memory m.plain.a) m.plain.flags) (plain.state_of m) (c + used) (ticked + used + w.n)
      ≡ writes_at (trace p k) (c + durations p k) (ticks (plus q (added p k))) =
      quiet-writes m z (c + used) (ticked + used + w.n)
      ∙ ap (λ x. writes_at m x (ticked + used + w.n)) (began-cycle c)
      ∙ ap (λ x. writes_at m (c + durations p k) x) (ap (λ x. x + used + w.n) e ∙ began-tick q)
      ∙ ap (λ (x : plain.Machine). writes_at x (c + durations p k) (ticks (plus q (added p k)))) g.there in
      rw s (one-longer c q p k v n₀ n₁ n₂ f₀ f₁ f₂ x (subst (λ (es : List Store). Tells n₁ f₁ n₂ f₂ (handed v es)) at y))
