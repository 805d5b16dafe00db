-- A core as an array of words, and back.
use Rattle.std.specs.Prelude.{ℕ, Bool, ◌&&◌, List, [], ◌∷◌, ◌++◌}
use Rattle.semantics.specs.declared.Sums.{Sums}
use Rattle.semantics.specs.Sums.{nsi}
use Rattle.steps.specs.declared.Latches.{Latches}
use Rattle.steps.specs.Steps.{latches}
use Rattle.cycle.specs.declared.Control.{Control}
use Rattle.cycle.specs.declared.Counts.{Counts}
use Rattle.cycle.specs.declared.Pipe.{Pipe}
use Rattle.cycle.specs.Machine.{pipe, counts}
use Rattle.pipeline.specs.declared.Core.{Core}
use Rattle.arrays.specs.Words.{at, registers_of}
use Rattle.core_arrays.specs.Counts.{count_words, count_at}
use Rattle.core_arrays.specs.Fetched.{fetched_words, fetched_at, stands_at}
use Rattle.core_arrays.specs.Phases.{phase_number, phase_of}

-- words 15 to 22: the pipe, with the flags after its counter
abbrev pub pipe_words : ℕ → Pipe → List ℕ
pipe_words flags p = p.pc ∷ flags ∷ fetched_words p.ir1 ++ fetched_words p.ir2 ++ fetched_words p.ix

-- words 24 to 26
abbrev pub latch_words : Latches → List ℕ
latch_words l = l.address ∷ l.datum ∷ l.base ∷ []

-- words 27 to 30
abbrev pub counts_words : Counts → List ℕ
counts_words n = count_words n.cycles ++ count_words n.retired

-- words 31 and 32
abbrev pub stop_words : Control → List ℕ
stop_words c = c.stop ∷ c.board.size ∷ []

-- words 33 to 38
abbrev pub sums_words : Sums → List ℕ
sums_words q = count_words q.n ++ count_words q.s ++ count_words q.i

-- words 15 to 38; the phase is word 23
abbrev pub control_words : Control → List ℕ
control_words c = pipe_words c.flags c.pipe ++ phase_number c.phase ∷ latch_words c.latches ++ counts_words c.counts ++ stop_words c ++ sums_words c.counts.sums

unfoldable pub packed : Core → List ℕ
packed c = registers_of c.registers ++ control_words c.control

abbrev pub pipe_at : List ℕ → Pipe
pipe_at words = pipe (at words 15) (fetched_at words 17) (fetched_at words 19) (fetched_at words 21)

abbrev pub latches_at : List ℕ → Latches
latches_at words = latches (at words 24) (at words 25) (at words 26)

-- the length of the memory that the core was started on
abbrev pub length_in : List ℕ → ℕ
length_in words = at words 32

abbrev pub counts_at : List ℕ → Counts
counts_at words = counts (count_at words 27) (count_at words 29) (nsi (count_at words 33) (count_at words 35) (count_at words 37))

abbrev pub control_of : List ℕ → Control
control_of words = record {
  flags = at words 16;
  pipe = pipe_at words;
  phase = phase_of (at words 23);
  latches = latches_at words;
  counts = counts_at words;
  stop = at words 31;
  board = record { size = length_in words };
}

unfoldable pub unpacked : List ℕ → Core
unpacked words = record { registers = registers_of words; control = control_of words }

-- no fetched word is half valid
unfoldable pub stands_for_core : List ℕ → Bool
stands_for_core words = stands_at words 17 && (stands_at words 19 && stands_at words 21)
