-- What ends a watched run before its first cycle. Assumes nothing.
use Rattle.std.specs.Prelude.{Option, Some, None}
use Prim.Native.Nat.{ℕ, ◌+◌, ◌*◌, ◌≤◌}
use mathlib.Core.Path.{◌≡◌, refl, sym, ap, ◌∙◌}
use mathlib.Core.Bool.{Bool, true, false, not}
use mathlib.Core.Logic.{◌≢◌}
use native.Mathlib.Omega.{arith}
use lib.Dec.{eqb, ltb}
use borrow.Author.Tests.{eqb-true, eqb-false, ne_eqb}
use Rattle.bits.specs.Choice.{pick}
use Rattle.stops.specs.declared.reason.Stop.{Stop}
use Rattle.stops.specs.declared.reason.Stop.TheVariants.{NoWord, OtherWord, BrokenRule, OutsideMemory, FetchedWord}
use Rattle.stops.specs.Numbers.{held_number}
use Rattle.plain.specs.Numbers.{is_stop, bad_budget}
use Rattle.plain.specs.declared.refused.Refusal.{Refusal}
use Rattle.plain.specs.declared.refused.Refusal.TheVariants.{Length, Entry, Budget, Flags, Record, OtherMemory, TooManyCycles}
use Rattle.plain.specs.Refused.{number_of}
use Rattle.plain.specs.Running.{Ran, ran}
use Rattle.plain.proofs.Told.{some_number}
use Rattle.semantics.specs.Sums.{total}
use Rattle.cycle.specs.Machine.{Machine, most_cycles}
use Rattle.refusals.specs.Numbers.{bad, refusal, at_once}
use Rattle.refusals.proofs.Refusals.{granted}
use Rattle.pipeline.specs.Calls.{run}
use Rattle.pipeline.proofs.Calls.{ended, begun}
use Rattle.link.specs.declared.Window.{Window}
use Rattle.link.specs.declared.Summary.{Summary}
use Rattle.link.specs.Window.{handed, bad_window, window_refused}
use Rattle.link.specs.Summary.{summed}
use Rattle.stores.specs.Coming.{stored}
use Rattle.watch.specs.Rated.{rated, with_stores, rate_from, rate_run}

-- no refusal's number is a stop's
no-stop : (x : Refusal) → is_stop (number_of x) ≡ false
no-stop Length = refl
no-stop Entry = refl
no-stop Budget = refl
no-stop Flags = refl
no-stop Record = refl
no-stop OtherMemory = refl
no-stop TooManyCycles = refl

held-high : (h : Option Stop) → held_number h ≢ 0 → 21 ≤ held_number h
held-high None z = absurd (z refl)
held-high (Some NoWord) z = omega arith
held-high (Some OtherWord) z = omega arith
held-high (Some BrokenRule) z = omega arith
held-high (Some OutsideMemory) z = omega arith
held-high (Some FetchedWord) z = omega arith

-- none is above 13
low : (lent budget : ℕ) (m : Machine) → refusal lent budget m ≤ 13
unfolding refusal
low lent budget m = go (not (eqb lent m.control.board.size)) (bad m) (bad_budget budget) (ltb most_cycles (m.control.counts.cycles + budget))
  where
    go : (a b c d : Bool) → pick a 12 (pick b 11 (pick c 3 (pick d 13 0))) ≤ 13
    go true b c d = omega arith
    go false true c d = omega arith
    go false false true d = omega arith
    go false false false true = omega arith
    go false false false false = omega arith

-- no cycles, no stores
nothing-more : (w : Window) (s : Summary) (m : Machine) → s ≡ summed s (handed w (stored m 0))
unfolding stored handed
nothing-more w s m = refl

module _ (lent budget : ℕ) (m : Machine) where
  pub refusal-told : (x : Refusal) → number_of x ≡ at_once lent budget m → refusal lent budget m ≡ number_of x
  refusal-told x e = go (eqb (refusal lent budget m) 0) refl e
    where
      go : (b : Bool) → eqb (refusal lent budget m) 0 ≡ b → number_of x ≡ pick b m.control.stop (refusal lent budget m) → refusal lent budget m ≡ number_of x
      go true t e =
          let g = granted lent budget m (eqb-true _ _ t) in
          absurd (let z : true ≡ false = sym g.standing ∙ ap is_stop (sym e) ∙ no-stop x in cc)
      go false t e = sym e

  pub held-told : (h : Option Stop) → held_number h ≡ at_once lent budget m → (refusal lent budget m ≡ 0) × (m.control.stop ≡ held_number h)
  held-told h e = go (eqb (refusal lent budget m) 0) refl e
    where
      go : (b : Bool) → eqb (refusal lent budget m) 0 ≡ b → held_number h ≡ pick b m.control.stop (refusal lent budget m) → (refusal lent budget m ≡ 0) × (m.control.stop ≡ held_number h)
      go true t e = (eqb-true _ _ t, sym e)
      go false t e = absurd (let n = eqb-false _ _ t in let k = held-high h (λ z. n (sym e ∙ z)) in omega (arith, low lent budget m, e))

  module _ (w : Window) (s : Summary) where
    pub told-refused : (x : Refusal) → number_of x ≡ at_once lent budget m → rated (ran (number_of x) 0 m) s ≡ rate_run lent budget w s m
    unfolding rate_run
    told-refused x e = rw (refusal-told x e, ne_eqb (number_of x) 0 (some_number x))

    pub told-window : (h : Option Stop) → held_number h ≡ at_once lent budget m → bad_window w lent ≡ true → rated (ran window_refused 0 m) s ≡ rate_run lent budget w s m
    unfolding rate_run
    told-window h e b = let r = (held-told h e).0 in rw (r, b)

    accepted : refusal lent budget m ≡ 0 → bad_window w lent ≡ false → with_stores w s m (run lent budget m) ≡ rate_run lent budget w s m
    unfolding rate_run
    accepted r b = rw (r, b)

    pub told-held : (h : Option Stop) → held_number h ≡ at_once lent budget m → held_number h ≢ 0 → bad_window w lent ≡ false → rated (ran (held_number h) 0 m) s ≡ rate_run lent budget w s m
    told-held h e z b =
        ap (λ (x : Summary). rated (ran (held_number h) 0 m) x) (nothing-more w s m)
        ∙ ap (λ (r : Ran Machine). with_stores w s m r) (ended lent budget m e z)
        ∙ accepted (held-told h e).0 b

    pub told-run : (h : Option Stop) → held_number h ≡ at_once lent budget m → held_number h ≡ 0 → bad_window w lent ≡ false → rate_from budget w s m ≡ rate_run lent budget w s m
    told-run h e z b = ap (λ (r : Ran Machine). with_stores w s m r) (begun lent budget m e z refl) ∙ accepted (held-told h e).0 b

  pub told-room : (h : Option Stop) → held_number h ≡ at_once lent budget m
      → (m.control.counts.cycles + budget ≤ most_cycles) × (m.control.counts.retired ≤ m.control.counts.cycles) × (total m.control.counts.sums + 36 * budget ≤ 37 * most_cycles)
  told-room h e =
      let g = granted lent budget m (held-told h e).0 in
      (g.room, g.behind, omega (arith, g.room, g.timed))
