-- Stores told one after the other. Assumes nothing.
use Prim.Native.Nat.{ℕ, suc, ◌+◌, ◌<◌}
use mathlib.Core.Path.{◌≡◌, refl, sym, ap, ◌∙◌}
use mathlib.Core.List.{List, [], ◌∷◌, ◌++◌}
use mathlib.Core.Bool.{true, false}
use native.Mathlib.Omega.{arith}
use lib.ListN.{length, take}
use Rattle.std.specs.Prelude.{slice_set}
use Rattle.std.proofs.lemmas.List.{append-nil, append_assoc}
use Rattle.std.proofs.lemmas.Grind.{take-set_at}
use Rattle.transfer.specs.Block.{next}
use Rattle.link.specs.declared.Store.{Store}
use Rattle.link.specs.declared.Window.{Window}
use Rattle.link.specs.Window.{store, within, handed}
use Rattle.link.proofs.Handed.{parts}
use Rattle.stores.specs.Writes.{place, burst}
use Rattle.watch.specs.Told.{Tells}

-- one that does not go into the window, and one that does
pub passed-by : (w : Window) (found : List Store) (n : ℕ) (e : Store) → within w e ≡ false → Tells n found n found (handed w (e ∷ []))
unfolding handed
passed-by w found n e h = rw h (sym (append-nil (take n found)))

pub told-one : (w : Window) (found : List Store) (n : ℕ) (e : Store) → n < length found → within w e ≡ true → Tells n found (n + 1) (slice_set found n e) (handed w (e ∷ []))
unfolding handed
told-one w found n e l h = rw h (take-set_at found n (n + 1) e refl l)

-- none told
pub none-told : (found : List Store) (n : ℕ) → Tells n found n found []
none-told found n = sym (append-nil (take n found))

-- some, and then some
pub told-both : (w : Window) (a b c : ℕ) (f g h : List Store) (xs ys : List Store) → Tells a f b g (handed w xs) → Tells b g c h (handed w ys) → Tells a f c h (handed w (xs ++ ys))
told-both w a b c f g h xs ys x y =
    y ∙ ap (λ (zs : List Store). zs ++ handed w ys) x ∙ append_assoc (take a f) (handed w xs) (handed w ys) ∙ ap (λ (zs : List Store). take a f ++ zs) (sym (parts w xs ys))

-- of a burst, what is told and what is left are what was left before
abbrev pub Left : Window → ℕ → List Store → ℕ → List Store → ℕ → Store → ℕ → Store → Type 0
Left w n found m new left e all first =
    take m new ++ handed w (burst left e.bytes e.address e.cycle e.tick) ≡ take n found ++ handed w (burst all first.bytes first.address first.cycle first.tick)

module _ (w : Window) (n m all : ℕ) (found new : List Store) (e first : Store) where
  pub left-none : Left w n found m new 0 e all first → Tells n found m new (handed w (burst all first.bytes first.address first.cycle first.tick))
  unfolding burst handed
  left-none h = sym (append-nil (take m new)) ∙ h

  pub left-one : (k left : ℕ) (newer : List Store) → Left w n found m new (suc left) e all first
      → Tells m new k newer (handed w (store e.cycle e.tick (place e.bytes e.address) e.bytes ∷ []))
      → Left w n found k newer left (store (e.cycle + 1) (e.tick + 1) (next e.address) e.bytes) all first
  unfolding burst
  left-one k left newer h t =
      let c : e.cycle + 1 ≡ suc e.cycle = omega arith in
      let d : e.tick + 1 ≡ suc e.tick = omega arith in
      let x = store e.cycle e.tick (place e.bytes e.address) e.bytes in
      let rest = burst left e.bytes (next e.address) (suc e.cycle) (suc e.tick) in
      rw (c, d)
      (ap (λ (zs : List Store). zs ++ handed w rest) t
      ∙ append_assoc (take m new) (handed w (x ∷ [])) (handed w rest)
      ∙ ap (λ (zs : List Store). take m new ++ zs) (sym (parts w (x ∷ []) rest))
      ∙ h)
