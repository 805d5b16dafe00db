-- A stop changes only the stop, proved.
-- Assumes nothing.
use Rattle.std.specs.Prelude.{Option, ℕ}
use Rattle.std.proofs.Common.{◌≡◌, ℕ, Bool, true, false, eqb, ◌≢◌, refl, ne_eqb, eqb-true}
use Rattle.registers.specs.State.{State}
use Rattle.stops.specs.Stops.{Due, no_word_there, skipped, executes, due, stop_of, stop_due, stop_for}
use Rattle.semantics.specs.Perform.{stopped, executed, performed_due, performs}
use Rattle.semantics.specs.Stopped.{Unchanged, Stopped}

module _ (s : State) where
  same : (q : ℕ) → Unchanged (stopped q s) s
  same q = record { registers = refl; flags = refl; address = refl; memory = refl; cycles = refl }

  stop : (d : Due) → (performed_due d s).performed.stop ≡ stop_due d s
  unfolding executed
  stop no_word_there = refl
  stop skipped = refl
  stop (executes i) = go (eqb (stop_of i s) 0) refl
    where
      go : (b : Bool) → eqb (stop_of i s) 0 ≡ b → (executed i s).performed.stop ≡ stop_of i s
      go true t = rw (t, eqb-true (stop_of i s) 0 t)
      go false t = rw t

  unchanged : (d : Due) → stop_due d s ≢ 0 → Unchanged (performed_due d s) s
  unfolding executed
  unchanged no_word_there n = same _
  unchanged skipped n = absurd (n refl)
  unchanged (executes i) n = rw (ne_eqb (stop_of i s) 0 n) (same (stop_of i s))

pub stopped-unchanged : (x : Option ℕ) (s : State) → Stopped x s
unfolding performs stop_for
stopped-unchanged x s = record { stop = stop s (due x s.status); unchanged = unchanged s (due x s.status) }
