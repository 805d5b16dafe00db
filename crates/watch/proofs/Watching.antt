-- The loop of a watched run. Assumes nothing.
use Prim.Native.Nat.{ℕ, zero, suc, ◌+◌, ◌-◌, ◌*◌, ◌≤◌, ◌<◌}
use mathlib.Core.Path.{◌≡◌, refl, sym, ap, ◌∙◌}
use mathlib.Core.List.{List, [], ◌∷◌, ◌++◌}
use mathlib.Core.Bool.{Bool, true, false}
use native.Mathlib.Omega.{arith}
use lib.ListN.{length, take, length-append}
use Rattle.std.proofs.lemmas.List.{length-take-le, append-nil}
use Rattle.bits.specs.Choice.{pick}
use Rattle.semantics.specs.Sums.{total}
use Rattle.plain.specs.Running.{ran, more_by}
use Rattle.plain.proofs.Running as running
use Rattle.cycle.specs.Machine.{Machine}
use Rattle.cycle.specs.Cycle.{cycle}
use Rattle.cycle.specs.StopFound.{stop_found}
use Rattle.cycle.proofs.SumsRise.{sums-rise}
use Rattle.runs.specs.Run.{engine, run_from, reach}
use Rattle.runs.proofs.RunLoop.{one-cycle, one-retired}
use Rattle.link.specs.declared.Store.{Store}
use Rattle.link.specs.declared.Window.{Window}
use Rattle.link.specs.Window.{within, handed}
use Rattle.link.proofs.Handed.{parts}
use Rattle.stores.specs.Coming.{told_bytes, coming, stored_by, stored}
use Rattle.stores.proofs.Flights.{reach-add, stored-add}
use Rattle.watch.specs.Told.{Tells}

-- ---- how many stores

handed-fewer : (w : Window) (es : List Store) → length (handed w es) ≤ length es
unfolding handed
handed-fewer w [] = omega arith
handed-fewer w (e ∷ es) = go (within w e) (handed-fewer w es)
  where
    go : (b : Bool) → length (handed w es) ≤ length es → length (pick b (e ∷ handed w es) (handed w es)) ≤ suc (length es)
    go true h = omega arith
    go false h = omega arith

-- a cycle stores once at most
one-at-most : (m : Machine) → length (stored_by m) ≤ 1
unfolding stored_by
one-at-most m = go (coming m).bytes _ _ _
  where
    go : (b a c t : ℕ) → length (told_bytes b a c t) ≤ 1
    go zero a c t = omega arith
    go (suc b) a c t = omega arith

no-more-than : (m : Machine) (t : ℕ) → length (stored m t) ≤ t
unfolding stored
no-more-than m zero = omega arith
no-more-than m (suc t) = omega (arith, length-append (stored_by m) (stored (cycle m) t), one-at-most m, no-more-than (cycle m) t)

-- ---- one cycle more

one-further : (m : Machine) (u : ℕ) → cycle (reach m u) ≡ reach m (u + 1)
unfolding reach
one-further m u = let s : u + 1 ≡ suc u = omega arith in ap (reach m) (sym s)

stored-one : (m : Machine) → stored m 1 ≡ stored_by m
unfolding stored
stored-one m = append-nil (stored_by m)

stored-last : (m : Machine) (u : ℕ) → stored m (u + 1) ≡ stored m u ++ stored_by (reach m u)
stored-last m u = stored-add m u 1 ∙ ap (λ (es : List Store). stored m u ++ es) (stored-one (reach m u))

-- ---- the counts on the way

pub record Counted (m₀ : Machine) (t : ℕ) : Type 0 where
  pub cycles : (reach m₀ t).control.counts.cycles ≡ m₀.control.counts.cycles + t
  pub retired : (reach m₀ t).control.counts.retired ≤ m₀.control.counts.retired + t
  pub sums : total (reach m₀ t).control.counts.sums ≤ total m₀.control.counts.sums + 36 * t

pub counted : (m₀ : Machine) (t : ℕ) → Counted m₀ t
unfolding reach
counted m₀ zero = record { cycles = omega arith; retired = omega arith; sums = omega arith }
counted m₀ (suc t) =
    let c = counted m₀ t in
    let m = reach m₀ t in
    record {
      cycles = omega (arith, c.cycles, one-cycle m);
      retired = omega (arith, c.retired, one-retired m);
      sums = omega (arith, c.sums, sums-rise m);
    }

-- ---- the loop

-- u cycles on from m₀ the run stands at m, with n stores told
pub record Watching (budget : ℕ) (m₀ : Machine) (w : Window) (found : List Store) (n u : ℕ) (m : Machine) : Type 0 where
  pub left : running.Left engine budget m₀ u m
  pub at : m ≡ reach m₀ u
  pub told : take n found ≡ handed w (stored m₀ u)
  pub few : n ≤ length found

pub watching-start : (b : ℕ) (m : Machine) (w : Window) (found : List Store) → Watching b m w found 0 0 m
watching-start b m w found = record { left = running.left-start engine b m; at = unfold reach in refl; told = unfold stored handed in refl; few = omega arith }

module _ {b : ℕ} {m₀ : Machine} {w : Window} {found : List Store} {n u : ℕ} {m : Machine} (l : Watching b m₀ w found n u m) where
  pub few-told : n ≤ u
  few-told =
      let long : length (take n found) ≡ n = length-take-le n found l.few in
      omega (arith, long, ap length l.told, handed-fewer w (stored m₀ u), no-more-than m₀ u)

  pub counts-now : (m.control.counts.cycles ≡ m₀.control.counts.cycles + u) × (m.control.counts.retired ≤ m₀.control.counts.retired + u)
      × (total m.control.counts.sums ≤ total m₀.control.counts.sums + 36 * u)
  counts-now = let c = counted m₀ u in rw l.at (c.cycles, c.retired, c.sums)

  pub watching-on : {v n' : ℕ} {new : List Store} {k : Machine} → u ≤ b → k ≡ reach m v → run_from (b - u) m ≡ more_by v (run_from (b - u - v) k) → v ≤ b - u
      → Tells n found n' new (handed w (stored m v)) → n' ≤ length new → Watching b m₀ w new n' (u + v) k
  watching-on {v} {n'} {new} {k} h there goes within tells few =
      let r : l.left.rest ≡ b - u = omega (arith, l.left.sum) in
      let last = run_from (b - u - v) k in
      let sum : u + (v + last.used) ≡ u + v + last.used = omega arith in
      record {
        left = record {
          rest = b - u - v;
          sum = omega arith;
          same = l.left.same ∙ ap (λ x. more_by u (run_from x m)) r ∙ ap (more_by u) goes ∙ ap (λ x. ran last.answer x last.machine) sum;
        };
        at = there ∙ ap (λ (x : Machine). reach x v) l.at ∙ sym (reach-add m₀ u v);
        told = tells ∙ ap (λ (es : List Store). es ++ handed w (stored m v)) l.told
            ∙ ap (λ (x : Machine). handed w (stored m₀ u) ++ handed w (stored x v)) l.at
            ∙ sym (parts w (stored m₀ u) (stored (reach m₀ u) v)) ∙ ap (handed w) (sym (stored-add m₀ u v));
        few = few;
      }

  pub watching-step : {n' : ℕ} {new : List Store} {k : Machine} → u < b → k ≡ cycle m → stop_found m ≡ 0 → Tells n found n' new (handed w (stored_by m)) → n' ≤ length new
      → Watching b m₀ w new n' (u + 1) k
  watching-step {n'} {new} {k} h next quiet tells few = record {
    left = running.left_step engine l.left h next quiet;
    at = next ∙ ap cycle l.at ∙ one-further m₀ u;
    told = tells ∙ ap (λ (es : List Store). es ++ handed w (stored_by m)) l.told
        ∙ ap (λ (x : Machine). handed w (stored m₀ u) ++ handed w (stored_by x)) l.at
        ∙ sym (parts w (stored m₀ u) (stored_by (reach m₀ u))) ∙ ap (handed w) (sym (stored-last m₀ u));
    few = few;
  }
