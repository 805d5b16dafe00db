-- The stores of the core are those of the plain machine, each in its cycle and its tick. Every list of term 3's calls comes to what some cycles from its
-- start leave, and this holds of every number of them that passes no stop.
use Rattle.std.specs.Prelude.{ℕ, ◌≤◌, ◌≡◌, List, [], ◌∷◌, length, leb}
use Rattle.bits.specs.Choice.{pick}
use Rattle.plain.specs.Trace.{Does}
use Rattle.plain.specs.Machine as plain
use Rattle.cycle.specs.Machine.{Machine}
use Rattle.pipeline.specs.Calls.{start}
use Rattle.pipeline.specs.Term3.{fresh, plain_fresh, sums, Call, Reply, Calls}
use Rattle.runs.specs.Run.{reach, holding}
use Rattle.link.specs.declared.Store.{Store}
use Rattle.stores.specs.Coming.{stored}
use Rattle.stores.specs.Planned.{planned}

-- the stores whose cycle does not pass t
unfoldable pub up_to : ℕ → List Store → List Store
up_to t [] = []
up_to t (e ∷ es) = pick (leb e.cycle t) (e ∷ up_to t es) (up_to t es)

-- the core m after a list of calls that came to total t, from the start m₀ with the plain machine p
pub record Agrees (p : plain.Machine) (m₀ m : Machine) (t : ℕ) : Type 0 where
  -- it is where t cycles lead
  pub stop : ℕ
  pub is : m ≡ holding (reach m₀ t) stop
  -- some k instructions, done before any stop, cover them
  pub k : ℕ
  pub does : Does p k
  pub covers : t ≤ sums p k
  -- and the stores of those cycles are exactly those of any such instructions whose cycle does not pass the total
  pub stores : (n : ℕ) → Does p n → t ≤ sums p n → stored m₀ t ≡ up_to t (planned p n)

abbrev pub StoresAgree : Type 0
StoresAgree = (g : List ℕ) (flags entry : ℕ) (mem : List ℕ) → (start g flags entry mem).answer ≡ 0
    → (cs : List Call) (rs : List Reply) (m : Machine) (t : ℕ) → Calls (plain_fresh g flags entry mem) (length mem) (fresh g flags entry mem) 0 cs rs m t
    → Agrees (plain_fresh g flags entry mem) (fresh g flags entry mem) m t
