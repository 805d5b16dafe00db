-- The buffers of the options that are asked for, each after the same stores.
use Rattle.std.specs.Prelude.{ℕ, ◌*◌, ◌<◌, ◌≤◌, ◌≡◌, List, get_or}
use Rattle.link.specs.declared.Store.{Store}
use Rattle.link.specs.declared.Line.{Line}
use Rattle.link.specs.declared.Buffer.{Buffer}
use Rattle.link.specs.declared.Summary.{Summary}
use Rattle.link.specs.Window.{window, handed}
use Rattle.link.specs.Summary.{nothing, summed}
use Rattle.link.specs.Fold.{empty, all_taken, Limited, Filled, Room}
use Rattle.stores.specs.Coming.{stored}
use Rattle.plain.specs.Running.{Ran}
use Rattle.cycle.specs.Machine.{Machine}
use Rattle.runs.specs.Run.{run_from}
use Rattle.semantics.specs.Sums.{total}
use Rattle.cycle.specs.declared.Control.{Control}
use Rattle.rate.specs.declared.Request.{Request}
use Rattle.rate.specs.Request.{line_of}

-- the option in place k, and its buffer
abbrev pub line_at : Request → ℕ → Line
line_at r k = line_of r (get_or r.options k 0)

abbrev pub buffer_at : List Buffer → ℕ → Buffer
buffer_at buffers k = get_or buffers k empty

-- what the walks need of a request that is not refused
pub record Limits (r : Request) : Type 0 where
  pub count : r.count ≤ 32
  pub lines : (k : ℕ) → k < r.count → Limited (line_at r k)

-- n stores more can come
abbrev pub Rooms : Request → List Buffer → ℕ → Type 0
Rooms r buffers n = (k : ℕ) → k < r.count → Room (line_at r k) (buffer_at buffers k) n

-- after these stores
abbrev pub Taken : Request → List Buffer → List Store → Type 0
Taken r buffers es = (k : ℕ) → k < r.count → buffer_at buffers k ≡ all_taken (line_at r k) empty es

-- each with these stores more
abbrev pub More : Request → List Buffer → List Store → List Buffer → Type 0
More r old es new = (k : ℕ) → k < r.count → buffer_at new k ≡ all_taken (line_at r k) (buffer_at old k) es

-- so many cycles after a start
pub record Counted (t : ℕ) (c : Control) : Type 0 where
  pub cycles : c.counts.cycles ≡ t
  pub retired : c.counts.retired ≤ t
  pub sums : total c.counts.sums ≤ 36 * t

-- what t cycles from m store into the window
abbrev pub into_window : Request → Machine → ℕ → List Store
into_window r m t = handed (window r.from r.to) (stored m t)

-- what the stores of t cycles fold to
pub record Folded (r : Request) (m₀ : Machine) (t : ℕ) (s : Summary) (buffers : List Buffer) : Type 0 where
  pub summary : s ≡ summed nothing (into_window r m₀ t)
  pub taken : Taken r buffers (into_window r m₀ t)
  pub filled : (k : ℕ) → k < r.count → Filled (line_at r k) (buffer_at buffers k)

-- where the run from m₀ ends
pub record Ends (r : Request) (m₀ : Machine) (went : Ran Machine) (s : Summary) (buffers : List Buffer) : Type 0 where
  pub run : went ≡ run_from r.cycles m₀
  pub counted : Counted went.used went.machine.control
  pub within : went.used ≤ r.cycles
  pub folded : Folded r m₀ went.used s buffers
