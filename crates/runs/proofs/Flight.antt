-- A flight: the cycles from inside an instruction to the next boundary, and what holds of the core on the way.
-- Assumes nothing.
use Rattle.std.specs.Prelude.{Option, ℕ, Some, None}
use Prim.Native.Nat.{ℕ, zero, suc, ◌+◌}
use mathlib.Core.Path.{◌≡◌, refl, sym, ap, ◌∙◌}
use mathlib.Core.List.{List}
use mathlib.Core.Bool.{false}
use native.Mathlib.Omega.{arith}
use Rattle.word.specs.Reader.{read_of}
use Rattle.datapath.specs.Counter.{ahead, counter}
use Rattle.datapath.proofs.Counters.{ahead-ahead}
use Rattle.memory.specs.declared.Board.{Board}
use Rattle.memory.specs.Memory.{Memory, word_at}
use Rattle.registers.specs.State.{State, state}
use Rattle.semantics.specs.declared.Sums.{Sums}
use Rattle.semantics.specs.Sums.{plus, sums_of}
use Rattle.semantics.specs.Duration.{own_steps, refills, next_address}
use Rattle.plain.specs.Machine as plain
use Rattle.steps.specs.declared.Phase.{Phase}
use Rattle.steps.specs.declared.Phase.TheVariants.{Step1}
use Rattle.steps.specs.declared.Ended.TheVariants.{Executed}
use Rattle.steps.specs.declared.After.TheVariants.{Done}
use Rattle.steps.specs.declared.Latches.{Latches}
use Rattle.cycle.specs.declared.Pipe.{Pipe}
use Rattle.cycle.specs.declared.Counts.{Counts}
use Rattle.cycle.specs.Machine.{Machine, machine, pipe, counts}
use Rattle.steps.specs.Steps.{idle, ends}
use Rattle.cycle.specs.StopFound.{is_step1}
use Rattle.cycle.specs.Cycle.{cycle, own_of, pipe_after, phase_after, counts_after}
use Rattle.runs.specs.Boundary.{boundary, lead}

-- off a boundary, with the last boundary's counts but for the cycles, and u cycles beyond the durations
pub record Aloft (n : Counts) (u : ℕ) (m : Machine) : Type 0 where
  pub off : is_step1 m.control.phase ≡ false
  pub retired : m.control.counts.retired ≡ n.retired
  pub sums : m.control.counts.sums ≡ n.sums
  pub beyond : lead m ≡ u

abbrev pub Flight : Counts → ℕ → ℕ → Machine → Machine → Type 0
Flight n u zero m e = m ≡ e
Flight n u (suc j) m e = Aloft n u m × Flight n (suc u) j (cycle m) e

-- the counts of a boundary, at a later cycle
abbrev pub at_cycle : ℕ → Counts → Counts
at_cycle t n = counts t n.retired n.sums

-- with one instruction more, which adds q
abbrev pub retiring : ℕ → Sums → Counts → Counts
retiring t q n = counts t (suc n.retired) (plus n.sums q)

abbrev pub climb : ℕ → ℕ → ℕ
climb zero t = t
climb (suc n) t = climb n (suc t)

pub climb-add : (n t : ℕ) → climb n t ≡ t + n
climb-add zero t = omega arith
climb-add (suc n) t = omega (arith, climb-add n (suc t))

-- n + m, for a flight's length
abbrev pub more : ℕ → ℕ → ℕ
more zero m = m
more (suc n) m = suc (more n m)

-- the pipe of the instruction in IX at a after its step 1
abbrev pub in_flight : ℕ → Memory → Option ℕ → Pipe
in_flight a mem ix = pipe (ahead a 12) (word_at mem (ahead a 8)) (word_at mem (ahead a 4)) ix

abbrev pub on_board : List ℕ → ℕ → Pipe → Phase → Latches → Counts → Board → List ℕ → Machine
on_board g f p ph l c b mem = machine g (record { flags = f; pipe = p; phase = ph; latches = l; counts = c; stop = 0; board = b }) mem

abbrev pub at : List ℕ → ℕ → Pipe → Phase → Latches → Counts → Memory → Machine
at g f p ph l c mem = on_board g f p ph l c mem.board mem.bytes

-- the plain machine in a state
abbrev pub plain_at : State → plain.Machine
plain_at s = plain.machine (plain.plain s.registers s.a s.status 0 s.memory.board) s.memory.bytes

pub turn12 : (a : ℕ) → ahead (ahead a 8) 4 ≡ ahead a 12
turn12 a = ahead-ahead a 8 4

turn48 : (a : ℕ) → ahead a 12 ≡ ahead (ahead a 4) 8
turn48 a = sym (ahead-ahead a 4 8)

pub turn44 : (a : ℕ) → ahead (ahead a 4) 4 ≡ ahead a 8
turn44 a = ahead-ahead a 4 4

-- the end of an instruction's own steps, and the refills after it; it adds q
pub land : (g : List ℕ) (f : ℕ) (e : Option ℕ) (w a : ℕ) (n : Counts) (t u : ℕ) (q : Sums) (mem : Memory) → 2 + own_steps (read_of w) g ≡ u → sums_of (read_of w) 0 ≡ q
    → Flight n u (refills e)
    (at g f (pipe_after (ends e) (in_flight a mem (Some w))) (phase_after (ends e)) idle (counts_after (ends e) (Some w) (at_cycle t n)) mem)
    (boundary (plain_at (state g f (next_address a e) mem)) (retiring (climb (refills e) (suc t)) q n))
unfolding cycle own_of boundary lead
land g f None w a n t u q mem s x = rw (x, turn48 a, sym (turn44 a))
land g f (Some v) w a n t u q mem s x = (
  record { off = refl; retired = refl; sums = refl; beyond = s },
  (record { off = refl; retired = refl; sums = refl; beyond = ap suc s }, rw (x, turn44 (counter v))),
)

-- a memory changed from mem to new, and not in the two words fetched ahead of a
abbrev pub Keeps : ℕ → Memory → Memory → Type 0
Keeps a mem new = (word_at mem (ahead a 4) ≡ word_at new (ahead a 4)) × (word_at mem (ahead a 8) ≡ word_at new (ahead a 8))

-- the end of an instruction after which the counter goes on, with these counts
pub land-stored : (g : List ℕ) (f w a : ℕ) (n : Counts) (mem new : Memory) → Keeps a mem new
    → at g f (pipe_after (Done (Executed 0)) (in_flight a mem (Some w))) Step1 idle n new ≡ boundary (plain_at (state g f (ahead a 4) new)) n
unfolding boundary
land-stored g f w a n mem new h = rw (h.0, h.1, turn48 a, sym (turn44 a))

-- the same, where the board is known to be the old one
pub land-on : (g : List ℕ) (f w a : ℕ) (n : Counts) (mem new : Memory) → new.board ≡ mem.board → Keeps a mem new
    → on_board g f (pipe_after (Done (Executed 0)) (in_flight a mem (Some w))) Step1 idle n mem.board new.bytes
    ≡ boundary (plain_at (state g f (ahead a 4) new)) n
land-on g f w a n mem new b h =
    ap (λ (x : Board). on_board g f (pipe_after (Done (Executed 0)) (in_flight a mem (Some w))) Step1 idle n x new.bytes) (sym b)
    ∙ land-stored g f w a n mem new h
